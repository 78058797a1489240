-- Texts of labels with dots between them, and the dot that may close them.
use Rattle.std.proofs.Common.{◌≡◌, ℕ, suc, ◌+◌, ◌-◌, ◌<◌, true, false, List, [], ◌∷◌, ◌++◌, length, take, get_or, refl, sym, ap, ◌∙◌, inl, inr, ◌⊎◌, arith, eqb}
use Rattle.std.specs.List.{All, AllByRecursion, list_all, join_with_byte}
use Rattle.std.proofs.lemmas.Bool.Decides.{nat_tests}
use Rattle.std.proofs.lemmas.Bool.{cases_Bool}
use Rattle.std.proofs.lemmas.List.Splits.{slice_split_none, slice_split_at, join_with_byte-slice_split}
use Rattle.std.proofs.lemmas.List.Elements.{All-nil, All-cons}
use Rattle.std.proofs.lemmas.List.{length-append, take_at, take_all, take_more, length_push, get_or_push, get_or-append-add}
use Rattle.dns_name.specs.Texts.{is_text_octet, IsTextLabel, IsDotted, parted, without_closing_dot}

no_dot : (label : List ℕ) → list_all is_text_octet label ≡ true → All (λ (octet : ℕ). eqb octet 46 ≡ false) label
no_dot [] e = All-nil (λ (octet : ℕ). eqb octet 46 ≡ false)
no_dot (octet ∷ label) e =
    let here : eqb octet 46 ≡ false = grind (arith, nat_tests) in
    let behind : list_all is_text_octet label ≡ true = grind (arith, nat_tests) in
    All-cons (λ (octet : ℕ). eqb octet 46 ≡ false) octet label here (no_dot label behind)

-- labels with dots between them
abbrev pub joined : List (List ℕ) → List ℕ
joined labels = join_with_byte 46 labels

parted-joined : (labels : List (List ℕ)) → 0 < length labels → AllByRecursion IsTextLabel labels → parted (joined labels) ≡ labels
parted-joined [] some each = absurd (omega arith)
parted-joined (label ∷ []) some each = slice_split_none (λ (octet : ℕ). eqb octet 46) label (no_dot label each.0.octets)
parted-joined (label ∷ second ∷ labels) some each =
    slice_split_at (λ (octet : ℕ). eqb octet 46) label 46 (joined (second ∷ labels)) (no_dot label each.0.octets) refl
    ∙ ap (λ (parts : List (List ℕ)). label ∷ parts) (parted-joined (second ∷ labels) (omega arith) each.1)

-- a text that ends with a label does not end with a dot
pub record EndsWithLabel (text : List ℕ) : Type 0 where
  pub some : 0 < length text
  pub last : eqb (get_or text (length text - 1) 0) 46 ≡ false

pub joined_ends : (labels : List (List ℕ)) → 0 < length labels → AllByRecursion IsTextLabel labels → EndsWithLabel (joined labels)
joined_ends [] some each = absurd (omega arith)
joined_ends (label ∷ []) some each = record {
  some = each.0.some;
  last = no_dot label each.0.octets (length label - 1) 0 (omega (arith, each.0.some));
}
joined_ends (label ∷ second ∷ labels) some each =
    let after : List ℕ = joined (second ∷ labels) in
    let ends = joined_ends (second ∷ labels) (omega arith) each.1 in
    let len = length-append label (46 ∷ after) in
    let offset : length (label ++ 46 ∷ after) - 1 ≡ length label + suc (length after - 1) = omega (arith, ends.some, len) in
    record {
      some = omega (arith, len);
      last = rw (offset, get_or-append-add label (46 ∷ after) (suc (length after - 1)) 0) ends.last;
    }

without_dot-label : (text : List ℕ) → EndsWithLabel text → without_closing_dot text ≡ text
without_dot-label text ends = rw ends.last refl

without_dot-dot : (text : List ℕ) → without_closing_dot (text ++ 46 ∷ []) ≡ text
without_dot-dot text =
    let len : length (text ++ 46 ∷ []) - 1 ≡ length text = omega (arith, length_push text 46) in
    rw (len, get_or_push text 46 0 (length text) refl) (take_at text (46 ∷ []) (length text) refl)

last_dot : (text : List ℕ) → get_or text (length text - 1) 0 ≡ 46 → text ≡ take (length text - 1) text ++ 46 ∷ []
last_dot [] e = absurd (omega arith)
last_dot (octet ∷ octets) e =
    let text : List ℕ = octet ∷ octets in
    let n : ℕ = length text - 1 in
    let more : take (n + 1) text ≡ take n text ++ get_or text n 0 ∷ [] = take_more text n 0 (omega arith) in
    let all : take (n + 1) text ≡ text = take_all (n + 1) text (omega arith) in
    sym all ∙ more ∙ ap (λ (last : ℕ). take n text ++ last ∷ []) e

closing : (text : List ℕ) → (text ≡ without_closing_dot text) ⊎ (text ≡ without_closing_dot text ++ 46 ∷ [])
closing text =
    elim (cases_Bool (eqb (get_or text (length text - 1) 0) 46)) [
      | inl is ↦ inr (rw is (last_dot text (grind (arith, nat_tests))))
      | inr not ↦ inl (rw not refl)
    ]

-- dots part each text into labels with dots between them
pub dotted_parts : (text : List ℕ) → IsDotted (parted (without_closing_dot text)) text
dotted_parts text =
    let back = join_with_byte-slice_split 46 (without_closing_dot text) in
    elim (closing text) [
      | inl e ↦ inl (e ∙ sym back)
      | inr e ↦ inr (e ∙ ap (λ (front : List ℕ). front ++ 46 ∷ []) (sym back))
    ]

-- the labels of a text are what its dots part, but for a closing one
pub parts_of : (written : List (List ℕ)) (text : List ℕ) → 0 < length written → AllByRecursion IsTextLabel written → IsDotted written text
    → parted (without_closing_dot text) ≡ written
parts_of written text some each (inl e) =
    rw (e, without_dot-label (joined written) (joined_ends written some each)) (parted-joined written some each)
parts_of written text some each (inr e) = rw (e, without_dot-dot (joined written)) (parted-joined written some each)
