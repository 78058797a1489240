-- Answers in steps, and tests of each element of a list.
use Rattle.std.proofs.Common.{◌≡◌, ℕ, Bool, true, false, List, [], ◌∷◌, ◌++◌, Option, Some, None, Result, Ok, refl, inl, inr, ◌⊎◌}
use Rattle.std.specs.List.{list_all}
use Rattle.std.specs.Option.{option_map, option_and_then, option_or}
use Rattle.std.proofs.lemmas.Bool.{cases_Bool}

-- what an answer of two steps was made of
pub steps_of : {A B : Type 0} (f : A → Option B) (o : Option A) (y : B) → option_and_then f o ≡ Some y → (x : A) × (o ≡ Some x)
    × (f x ≡ Some y)
steps_of f None y e = absurd cc
steps_of f (Some x) y e = (x, refl, e)

pub mapped_from : {A B : Type 0} (f : A → B) (o : Option A) (y : B) → option_map f o ≡ Some y → (x : A) × (o ≡ Some x) × (f x ≡ y)
mapped_from f None y e = absurd cc
mapped_from f (Some x) y e = (x, refl, cc)

pub either_of : {A : Type 0} (a b : Option A) (x : A) → option_or a b ≡ Some x → (a ≡ Some x) ⊎ ((a ≡ None) × (b ≡ Some x))
either_of None b x e = inr (refl, e)
either_of (Some y) b x e = inl e

pub all_weaker : (p q : ℕ → Bool) → ((x : ℕ) → p x ≡ true → q x ≡ true) → (text : List ℕ) → list_all p text ≡ true → list_all q text ≡ true
all_weaker p q weaker [] e = refl
all_weaker p q weaker (x ∷ xs) e =
    elim (cases_Bool (p x)) [
      | inl good ↦ rw (weaker x good) (all_weaker p q weaker xs (rw good at e))
      | inr bad ↦ (let no : false ≡ true = rw bad at e in absurd cc)
    ]

pub all-append : (p : ℕ → Bool) (a b : List ℕ) → list_all p a ≡ true → list_all p b ≡ true → list_all p (a ++ b) ≡ true
all-append p [] b e f = f
all-append p (x ∷ a) b e f =
    elim (cases_Bool (p x)) [
      | inl good ↦ rw good (all-append p a b (rw good at e) f)
      | inr bad ↦ (let no : false ≡ true = rw bad at e in absurd cc)
    ]

pub all_of-append : (p : ℕ → Bool) (a b : List ℕ) → list_all p (a ++ b) ≡ true → (list_all p a ≡ true) × (list_all p b ≡ true)
all_of-append p [] b e = (refl, e)
all_of-append p (x ∷ a) b e =
    elim (cases_Bool (p x)) [
      | inl good ↦ rw good (all_of-append p a b (rw good at e))
      | inr bad ↦ (let no : false ≡ true = rw bad at e in absurd cc)
    ]

pub same_Ok : {A E : Type 0} (x y : A) → ◌≡◌ {A = Result A E} (Ok x) (Ok y) → x ≡ y
same_Ok x y e = cc
