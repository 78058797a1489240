-- Rows of octets, and what follows them.
use Rattle.std.proofs.Common.{◌≡◌, ℕ, ◌<◌, ◌≤◌, Bool, true, false, List, [], ◌∷◌, ◌++◌, length, Some, None, refl, sym, ap, ◌∙◌, inl, inr, arith, eqb}
use Rattle.std.specs.List.{list_all}
use Rattle.std.proofs.lemmas.Bool.{cases_Bool}
use Rattle.std.proofs.lemmas.Bool.Decides.{nat_tests}
use Rattle.std.proofs.lemmas.Option.{same_Some}
use Rattle.std.proofs.lemmas.List.{append-nil, length-append}
use Rattle.sip_uri.specs.ViaClasses.{is_blank, row, behind_row}
use Rattle.sip_uri.specs.Readers.Vias.{behind_first, behind_mark}
use Rattle.sip_uri.specs.Vias.{IsBlanks}

-- a text that a row of the class does not go on into
abbrev pub Ends : (ℕ → Bool) → List ℕ → Type 0
Ends class [] = Unit {0}
Ends class (x ∷ text) = class x ≡ false

pub row_and : (class : ℕ → Bool) (text : List ℕ) → row class text ++ behind_row class text ≡ text
row_and class [] = refl
row_and class (x ∷ text) =
    elim (cases_Bool (class x)) [
      | inl is ↦ rw is (ap (λ (t : List ℕ). x ∷ t) (row_and class text))
      | inr no' ↦ rw no' refl
    ]

pub row_all : (class : ℕ → Bool) (text : List ℕ) → list_all class (row class text) ≡ true
row_all class [] = refl
row_all class (x ∷ text) =
    elim (cases_Bool (class x)) [
      | inl is ↦ rw (is, is) (row_all class text)
      | inr no' ↦ rw no' refl
    ]

pub behind_ends : (class : ℕ → Bool) (text : List ℕ) → Ends class (behind_row class text)
behind_ends class [] = tt
behind_ends class (x ∷ text) =
    elim (cases_Bool (class x)) [
      | inl is ↦ rw is (behind_ends class text)
      | inr no' ↦ rw no' no'
    ]

pub length_behind_row : (class : ℕ → Bool) (text : List ℕ) → length (behind_row class text) ≤ length text
length_behind_row class text = omega (arith, ap length (row_and class text), length-append (row class text) (behind_row class text))

ended : (class : ℕ → Bool) (text : List ℕ) → Ends class text → (row class text ≡ []) × (behind_row class text ≡ text)
ended class [] ends = (refl, refl)
ended class (x ∷ text) ends = rw ends (refl, refl)

pub row_again : (class : ℕ → Bool) (front text : List ℕ) → list_all class front ≡ true → Ends class text
    → (row class (front ++ text) ≡ front) × (behind_row class (front ++ text) ≡ text)
row_again class [] text all ends = ended class text ends
row_again class (x ∷ front) text all ends =
    elim (cases_Bool (class x)) [
      | inl is ↦ (let k = row_again class front text (rw is at all) ends in rw is (ap (λ (t : List ℕ). x ∷ t) k.0, k.1))
      | inr no' ↦ (let no : false ≡ true = rw no' at all in absurd cc)
    ]

-- the same, where nothing follows
pub row_alone : (class : ℕ → Bool) (front : List ℕ) → list_all class front ≡ true → (row class front ≡ front)
    × (behind_row class front ≡ [])
row_alone class front all = rw append-nil at (row_again class front [] all tt)

-- ---- a mark with blanks around it

pub record MarkRead (mark : ℕ) (text rest : List ℕ) : Type 0 where
  pub front : List ℕ
  pub behind : List ℕ
  pub front_blank : IsBlanks front
  pub behind_blank : IsBlanks behind
  pub joined : text ≡ front ++ mark ∷ (behind ++ rest)
  pub starts : Ends is_blank rest

first_read : (mark : ℕ) (text rest : List ℕ) → behind_first mark text ≡ Some rest → (more : List ℕ) × (text ≡ mark ∷ more)
    × (behind_row is_blank more ≡ rest)
first_read mark [] rest e = absurd cc
first_read mark (x ∷ text) rest e =
    elim (cases_Bool (eqb x mark)) [
      | inl is ↦ (let same : x ≡ mark =
          grind (arith, nat_tests) in (text, ap (λ (y : ℕ). y ∷ text) same, same_Some (behind_row is_blank text) rest (rw is at e)))
      | inr no' ↦ (let no : None ≡ Some rest = rw no' at e in absurd cc)
    ]

starts_at : (a b : List ℕ) → a ≡ b → Ends is_blank a → Ends is_blank b
starts_at a b e ends = rw e at ends

pub mark_read : (mark : ℕ) (text rest : List ℕ) → behind_mark mark text ≡ Some rest → MarkRead mark text rest
unfolding behind_mark
mark_read mark text rest e =
    let k = first_read mark (behind_row is_blank text) rest e in
    let more : List ℕ = k.0 in
    record {
      front = row is_blank text;
      behind = row is_blank more;
      front_blank = row_all is_blank text;
      behind_blank = row_all is_blank more;
      joined = sym (row_and is_blank text) ∙ ap
          (λ (t : List ℕ). row is_blank text ++ t)
          (k.1 ∙ ap (λ (t : List ℕ). mark ∷ t) (sym (row_and is_blank more) ∙ ap (λ (t : List ℕ). row is_blank more ++ t) k.2));
      starts = starts_at (behind_row is_blank more) rest k.2 (behind_ends is_blank more);
    }

pub mark_again : (mark : ℕ) → is_blank mark ≡ false → (front behind rest : List ℕ) → IsBlanks front → IsBlanks behind → Ends is_blank rest
    → behind_mark mark (front ++ mark ∷ (behind ++ rest)) ≡ Some rest
unfolding behind_mark
mark_again mark other front behind rest front_blank behind_blank ends =
    let k = row_again is_blank front (mark ∷ (behind ++ rest)) front_blank other in
    let l = row_again is_blank behind rest behind_blank ends in
    let same : eqb mark mark ≡ true = grind (arith, nat_tests) in
    rw k.1 (rw same (ap (λ (t : List ℕ). Some t) l.1))

-- a text in which another octet follows the blanks
abbrev pub Differs : ℕ → List ℕ → Type 0
Differs mark [] = Unit {0}
Differs mark (x ∷ text) = eqb x mark ≡ false

first_none : (mark : ℕ) (text : List ℕ) → Differs mark text → behind_first mark text ≡ None
first_none mark [] other = refl
first_none mark (x ∷ text) other = rw other refl

pub no_mark : (mark : ℕ) (front text : List ℕ) → IsBlanks front → Ends is_blank text → Differs mark text
    → behind_mark mark (front ++ text) ≡ None
unfolding behind_mark
no_mark mark front text blank ends other = rw (row_again is_blank front text blank ends).1 (first_none mark text other)

-- what begins with an octet of one class does not go on a row of another
pub begins_apart : (class other : ℕ → Bool) → ((x : ℕ) → class x ≡ true → other x ≡ false) → (front rest : List ℕ) → 0 < length front
    → list_all class front ≡ true → Ends other (front ++ rest)
begins_apart class other apart [] rest some all = absurd (omega arith)
begins_apart class other apart (x ∷ front) rest some all =
    elim (cases_Bool (class x)) [
      | inl is ↦ apart x is
      | inr no' ↦ (let no : false ≡ true = rw no' at all in absurd cc)
    ]
