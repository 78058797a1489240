-- Octets of a class in front of a text.
use Rattle.std.proofs.Common.{◌≡◌, ℕ, ◌+◌, ◌<◌, ◌≤◌, Bool, true, false, List, [], ◌∷◌, ◌++◌, length, take, drop, get_or, refl, sym, ap, ◌∙◌, inl, inr, arith, ◌-◌}
use Rattle.std.specs.List.{list_all}
use Rattle.std.proofs.lemmas.Bool.{cases_Bool}
use Rattle.std.proofs.lemmas.List.{drop_more, drop_all, take_rest}
use Rattle.ip_text.specs.Parts.{row, behind_row}

pub row_all : (class : ℕ → Bool) (text : List ℕ) → list_all class (row class text) ≡ true
row_all class [] = refl
row_all class (x ∷ text) =
    elim (cases_Bool (class x)) [
      | inl is ↦ rw is (rw is (row_all class text))
      | inr no' ↦ rw no' refl
    ]

pub row_and : (class : ℕ → Bool) (text : List ℕ) → row class text ++ behind_row class text ≡ text
row_and class [] = refl
row_and class (x ∷ text) =
    elim (cases_Bool (class x)) [
      | inl is ↦ rw is (ap (λ (l : List ℕ). x ∷ l) (row_and class text))
      | inr no' ↦ rw no' refl
    ]

-- an octet of another kind stands in front, or nothing
abbrev pub Ends : (ℕ → Bool) → List ℕ → Type 0
Ends class [] = Unit {0}
Ends class (x ∷ text) = class x ≡ false

pub row_ends : (class : ℕ → Bool) (text : List ℕ) → Ends class (behind_row class text)
row_ends class [] = tt
row_ends class (x ∷ text) =
    elim (cases_Bool (class x)) [
      | inl is ↦ rw is (row_ends class text)
      | inr no' ↦ rw no' no'
    ]

pub row_of : (class : ℕ → Bool) (front rest : List ℕ) → list_all class front ≡ true → Ends class rest
    → (row class (front ++ rest) ≡ front) × (behind_row class (front ++ rest) ≡ rest)
row_of class [] [] all ends = (refl, refl)
row_of class [] (x ∷ rest) all ends = rw ends (refl, refl)
row_of class (x ∷ front) rest all ends =
    elim (cases_Bool (class x)) [
      | inl is ↦ (let k = row_of class front rest (rw is at all) ends in rw is (ap (λ (l : List ℕ). x ∷ l) k.0, k.1))
      | inr no' ↦ (let no : false ≡ true = rw no' at all in absurd cc)
    ]

module _ (class : ℕ → Bool) (text : List ℕ) (at : ℕ) where
  module _ (within : at < length text) where
    pub row_here : class (get_or text at 0) ≡ true → (row class (drop at text) ≡ get_or text at 0 ∷ row class (drop (at + 1) text))
        × (behind_row class (drop at text) ≡ behind_row class (drop (at + 1) text))
    row_here is = rw (drop_more text at 0 within) (rw is (refl, refl))

    pub row_stops : class (get_or text at 0) ≡ false → (row class (drop at text) ≡ []) × (behind_row class (drop at text) ≡ drop at text)
    row_stops no' = rw (drop_more text at 0 within) (rw no' (refl, refl))

  pub row_at_end : length text ≤ at → (row class (drop at text) ≡ []) × (behind_row class (drop at text) ≡ drop at text)
  row_at_end all = rw (drop_all at text all) (refl, refl)

-- nothing is left behind the end
pub left_at_end : (text : List ℕ) (at : ℕ) → length text ≤ at → drop at text ≡ take (length text - length text) (drop (length text) text)
left_at_end text at all = drop_all at text all ∙ sym (take_rest text (length text) ∙ drop_all (length text) text (omega arith))
