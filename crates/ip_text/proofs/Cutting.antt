-- A text, cut at an octet: what its front and its back are, and what they are of a text that is joined.
use Rattle.std.proofs.Common.{◌≡◌, ℕ, zero, suc, ◌+◌, ◌<◌, ◌≤◌, Bool, true, false, not, List, [], ◌∷◌, ◌++◌, length, take, drop, get_or, append_assoc, Option, Some, None, refl, sym, ap, ◌∙◌, inl, inr, arith, eqb}
use Rattle.std.specs.List.{list_all, slice_split, join_with_byte, AllByRecursion}
use Rattle.std.proofs.lemmas.Bool.Decides.{nat_tests}
use Rattle.std.proofs.lemmas.Bool.{cases_Bool}
use Rattle.std.proofs.lemmas.List.{append-nil, length-append, drop_more, take_more, drop_all, take_all}
use Rattle.ip_text.specs.Parts.{before, behind, parted, Lacks}

-- no octet of the text is this one
abbrev pub lacks : ℕ → List ℕ → Bool
lacks octet text = list_all (λ (x : ℕ). not (eqb x octet)) text

-- what follows the front
abbrev pub back : ℕ → Option (List ℕ) → List ℕ
back octet None = []
back octet (Some rest) = octet ∷ rest

-- the parts of what follows
abbrev pub others : ℕ → Option (List ℕ) → List (List ℕ)
others octet None = []
others octet (Some rest) = slice_split (λ (x : ℕ). eqb x octet) rest

pub lacks-before : (octet : ℕ) (text : List ℕ) → lacks octet (before octet text) ≡ true
lacks-before octet [] = refl
lacks-before octet (x ∷ xs) = elim (cases_Bool (eqb x octet)) [ inl is ↦ rw is refl | inr no' ↦ rw (no', no') (lacks-before octet xs) ]

pub joined : (octet : ℕ) (text : List ℕ) → before octet text ++ back octet (behind octet text) ≡ text
joined octet [] = refl
joined octet (x ∷ xs) =
    elim (cases_Bool (eqb x octet)) [
      | inl is ↦ (let same : x ≡ octet = grind (arith, nat_tests) in rw is (cc))
      | inr no' ↦ rw no' (ap (λ (l : List ℕ). x ∷ l) (joined octet xs))
    ]

-- what stands after the octet is shorter
pub length_behind : (octet : ℕ) (text rest : List ℕ) → behind octet text ≡ Some rest → length rest < length text
length_behind octet text rest e =
    let k = rw e at (joined octet text) in
    omega (arith, ap length k, length-append (before octet text) (octet ∷ rest))

-- the front and the back of a text without the octet
pub alone : (octet : ℕ) (text : List ℕ) → lacks octet text ≡ true → (before octet text ≡ text) × (behind octet text ≡ None)
alone octet [] e = (refl, refl)
alone octet (x ∷ xs) e =
    elim (cases_Bool (eqb x octet)) [
      | inl is ↦ (let no : false ≡ true = rw is at e in absurd cc)
      | inr no' ↦ (let k = alone octet xs (rw no' at e) in rw no' (ap (λ (l : List ℕ). x ∷ l) k.0, k.1))
    ]

-- and of one in which the octet follows what lacks it
pub at_first : (octet : ℕ) (front rest : List ℕ) → lacks octet front ≡ true → (before octet (front ++ octet ∷ rest) ≡ front)
    × (behind octet (front ++ octet ∷ rest) ≡ Some rest)
at_first octet [] rest e = let is : eqb octet octet ≡ true = grind (arith, nat_tests) in rw is (refl, refl)
at_first octet (x ∷ xs) rest e =
    elim (cases_Bool (eqb x octet)) [
      | inl is ↦ (let no : false ≡ true = rw is at e in absurd cc)
      | inr no' ↦ (let k = at_first octet xs rest (rw no' at e) in rw no' (ap (λ (l : List ℕ). x ∷ l) k.0, k.1))
    ]

pub parts_are : (octet : ℕ) (text : List ℕ)
    → slice_split (λ (x : ℕ). eqb x octet) text ≡ before octet text ∷ others octet (behind octet text)
parts_are octet [] = refl
parts_are octet (x ∷ xs) =
    elim (cases_Bool (eqb x octet)) [
      | inl is ↦ rw is refl
      | inr no' ↦ rw no' (rw (parts_are octet xs) refl)
    ]

pub parts_more : (octet : ℕ) (text rest : List ℕ) → behind octet text ≡ Some rest
    → parted octet text ≡ before octet text ∷ parted octet rest
parts_more octet text rest e = parts_are octet text ∙ rw e refl

pub parts_last : (octet : ℕ) (text : List ℕ) → behind octet text ≡ None → parted octet text ≡ before octet text ∷ []
parts_last octet text e = parts_are octet text ∙ rw e refl

-- texts joined by an octet that they lack are the parts again
pub parts-joined : (octet : ℕ) (texts : List (List ℕ)) → 0 < length texts
    → AllByRecursion (λ (text : List ℕ). lacks octet text ≡ true) texts
    → slice_split (λ (x : ℕ). eqb x octet) (join_with_byte octet texts) ≡ texts
parts-joined octet [] some each = absurd (omega arith)
parts-joined octet (text ∷ []) some each =
    let k = alone octet text each.0 in
    parts_are octet text ∙ rw (k.0, k.1) refl
parts-joined octet (text ∷ second ∷ texts) some each =
    let rest : List ℕ = join_with_byte octet (second ∷ texts) in
    let k = at_first octet text rest each.0 in
    parts_are octet (text ++ octet ∷ rest) ∙ rw (k.0, k.1)
    (ap (λ (parts : List (List ℕ)). text ∷ parts) (parts-joined octet (second ∷ texts) (omega arith) each.1))

-- ---- a reader that has come to a place

module _ (octet : ℕ) (text : List ℕ) (at : ℕ) where
  pub record Passed : Type 0 where
    pub front : take at text ++ before octet (drop at text) ≡ before octet text
    pub back : behind octet (drop at text) ≡ behind octet text

module _ (octet : ℕ) (text : List ℕ) (at : ℕ) (passed : Passed octet text at) where
  pub found_here : at < length text → get_or text at 0 ≡ octet → (take at text ≡ before octet text)
      × (Some (drop (at + 1) text) ≡ behind octet text)
  found_here within is =
      let here : drop at text ≡ octet ∷ drop (at + 1) text = drop_more text at 0 within ∙ ap (λ (x : ℕ). x ∷ drop (at + 1) text) is in
      let same : eqb octet octet ≡ true = grind (arith, nat_tests) in
      let front : before octet (octet ∷ drop (at + 1) text) ≡ [] = rw same refl in
      let back : behind octet (octet ∷ drop (at + 1) text) ≡ Some (drop (at + 1) text) = rw same refl in
      (sym (append-nil (take at text)) ∙ rw (here, front) at passed.front, sym (rw (here, back) at (sym passed.back)))

  pub goes_on : at < length text → (get_or text at 0 ≡ octet → ⊥) → Passed octet text (at + 1)
  goes_on within other =
      let x : ℕ = get_or text at 0 in
      let differs : eqb x octet ≡ false = grind (arith, nat_tests) in
      let here : drop at text ≡ x ∷ drop (at + 1) text = drop_more text at 0 within in
      let front : before octet (x ∷ drop (at + 1) text) ≡ x ∷ before octet (drop (at + 1) text) = rw differs refl in
      let back : behind octet (x ∷ drop (at + 1) text) ≡ behind octet (drop (at + 1) text) = rw differs refl in
      let more : take (at + 1) text ≡ take at text ++ x ∷ [] = take_more text at 0 within in
      record {
        front = rw (more, append_assoc) (rw (here, front) at passed.front);
        back = rw (here, back) at passed.back;
      }

  pub found_nowhere : length text ≤ at → (text ≡ before octet text) × (None ≡ behind octet text)
  found_nowhere all =
      let none : drop at text ≡ [] = drop_all at text all in
      let whole : take at text ≡ text = take_all at text all in
      (sym (append-nil text) ∙ rw (none, whole) at passed.front, rw none at passed.back)

-- and to a place farther on
pub goes_far : (octet : ℕ) (text : List ℕ) (at count to : ℕ) → Passed octet text at → at + count ≡ to → to ≤ length text
    → Lacks octet text at count → Passed octet text to
goes_far octet text at zero to passed sum within none =
    let same : at ≡ to = omega arith in
    rw same at passed
goes_far octet text at (suc count) to passed sum within none =
    let so_far = goes_far octet text at count (at + count) passed refl (omega arith) (λ k from before. none k from (omega arith)) in
    let next = goes_on octet text (at + count) so_far (omega arith) (λ is. none (at + count) (omega arith) (omega arith) is) in
    let same : at + count + 1 ≡ to = omega arith in
    rw same at next

-- a front that lacks the octet, and the octet and what follows it, or nothing
pub cut_back : (octet : ℕ) (front : List ℕ) (rest : Option (List ℕ)) → lacks octet front ≡ true
    → (before octet (front ++ back octet rest) ≡ front) × (behind octet (front ++ back octet rest) ≡ rest)
cut_back octet front None e = let k = alone octet front e in rw append-nil k
cut_back octet front (Some rest) e = at_first octet front rest e
