-- A text has no fault exactly where it is the text of a name, and of one name alone.
use Rattle.std.proofs.Common.{◌≡◌, ℕ, ◌<◌, ◌≤◌, ◌==◌, true, false, List, [], ◌∷◌, ◌++◌, length, map, None, refl, sym, ap, ◌∙◌, inl, inr, ◌⊎◌, arith, eqb, append_assoc}
use Rattle.std.specs.List.{AllByRecursion, flat_map, list_all}
use Rattle.std.specs.Str.{bytes_eq}
use Rattle.std.proofs.lemmas.Bool.Decides.{nat_tests}
use Rattle.std.proofs.lemmas.Bool.{cases_Bool}
use Rattle.std.proofs.lemmas.Slice.Eq.{bytes_eq-Decides}
use Rattle.std.proofs.lemmas.List.Splits.{length-slice_split}
use Rattle.std.proofs.lemmas.List.{append-nil, length-append}
use Rattle.dns_name.specs.Labels.{IsLabel, IsName, small_letters, wire_of}
use Rattle.dns_name.specs.Texts.{is_text_octet, IsPlain, shown, label_text, text_of, IsTextLabel, IsDotted, TextOf, root, dotted, label_fault, labels_fault, length_fault, dotted_fault, parted, without_closing_dot}
use Rattle.dns_name.proofs.ClosingDots.{joined, joined_ends, dotted_parts, parts_of}
use Rattle.dns_name.proofs.TextLabels.{IsTextLabel-from_none, no_fault, IsLabel-small, length-small, option_or_none}

-- ---- no fault

labels_from_none : (labels : List (List ℕ)) → labels_fault labels ≡ None → AllByRecursion IsTextLabel labels
labels_from_none [] e = tt
labels_from_none (label ∷ labels) e =
    let k = option_or_none (label_fault label) (labels_fault labels) e in
    (IsTextLabel-from_none label k.0, labels_from_none labels k.1)

no_labels_fault : (labels : List (List ℕ)) → AllByRecursion IsTextLabel labels → labels_fault labels ≡ None
no_labels_fault [] each = refl
no_labels_fault (label ∷ labels) each = rw (no_fault label each.0) (no_labels_fault labels each.1)

short_from_none : (labels : List (List ℕ)) → length_fault labels ≡ None → length (wire_of labels) ≤ 255
short_from_none labels e = grind (arith, nat_tests)

no_length_fault : (labels : List (List ℕ)) → length (wire_of labels) ≤ 255 → length_fault labels ≡ None
no_length_fault labels short = grind (arith, nat_tests)

labels_small : (labels : List (List ℕ)) → AllByRecursion IsTextLabel labels → AllByRecursion IsLabel (map small_letters labels)
labels_small [] each = tt
labels_small (label ∷ labels) each = (IsLabel-small label each.0, labels_small labels each.1)

pub IsName-small : (labels : List (List ℕ)) → dotted_fault labels ≡ None → IsName (map small_letters labels)
IsName-small labels none =
    let k = option_or_none (labels_fault labels) (length_fault labels) none in
    record {
      each = labels_small labels (labels_from_none labels k.0);
      short = rw length-small (short_from_none labels k.1);
    }

-- ---- texts and names

pub TextOf-parted : (text : List ℕ) → dotted_fault (parted (without_closing_dot text)) ≡ None
    → TextOf (map small_letters (parted (without_closing_dot text))) text
TextOf-parted text none =
    let front : List ℕ = without_closing_dot text in
    let k = option_or_none (labels_fault (parted front)) (length_fault (parted front)) none in
    dotted (parted front) (omega (arith, length-slice_split (λ (octet : ℕ). octet == 46) front))
    (labels_from_none (parted front) k.0) (dotted_parts text) refl (rw length-small (short_from_none (parted front) k.1))

-- what a text of a name is
pub record Named (name : List (List ℕ)) (text : List ℕ) : Type 0 where
  pub no_dot : bytes_eq text (46 ∷ []) ≡ false
  pub faultless : dotted_fault (parted (without_closing_dot text)) ≡ None
  pub is : name ≡ map small_letters (parted (without_closing_dot text))

no_lone_dot : (written : List (List ℕ)) (text : List ℕ) → 0 < length written → AllByRecursion IsTextLabel written → IsDotted written text
    → text ≡ 46 ∷ [] → ⊥
no_lone_dot written text some each (inl e) dot =
    let ends = joined_ends written some each in
    let is : joined written ≡ 46 ∷ [] = sym e ∙ dot in
    let last : eqb 46 46 ≡ false = rw is at ends.last in
    cc
no_lone_dot written text some each (inr e) dot =
    let ends = joined_ends written some each in
    omega (arith, ends.some, ap length (sym e ∙ dot), length-append (joined written) (46 ∷ []))

pub named : (name : List (List ℕ)) (text : List ℕ) → TextOf name text → ((name ≡ []) × (text ≡ 46 ∷ [])) ⊎ Named name text
named name text (root e) = inl (refl, e)
named name text (dotted written some each is name-is short) =
    let parts = parts_of written text some each is in
    let dot = bytes_eq-Decides text (46 ∷ []) in
    let none : bytes_eq text (46 ∷ []) ≡ false =
    elim (cases_Bool (bytes_eq text (46 ∷ []))) [
      | inl yes' ↦ absurd
          (no_lone_dot written text some each is (dot.0 yes'))
      | inr no' ↦ no'
    ] in
    let len : length (wire_of written) ≤ 255 =
    omega (arith, length-small written, ap (λ (n : List (List ℕ)). length (wire_of n)) name-is) in
    inr (record {
      no_dot = none;
      faultless = rw (parts, no_labels_fault written each) (no_length_fault written len);
      is = rw parts name-is;
    })

-- ---- the text that is written

shown_plain : (label : List ℕ) → list_all is_text_octet label ≡ true → flat_map shown label ≡ label
shown_plain [] e = refl
shown_plain (octet ∷ label) e =
    let here : is_text_octet octet ≡ true = grind (arith, nat_tests) in
    let behind : list_all is_text_octet label ≡ true = grind (arith, nat_tests) in
    rw here (ap (λ (octets : List ℕ). octet ∷ octets) (shown_plain label behind))

written_labels : (labels : List (List ℕ)) → 0 < length labels → IsPlain labels → flat_map label_text labels ≡ joined labels ++ 46 ∷ []
written_labels [] some plain = absurd (omega arith)
written_labels (label ∷ []) some plain = rw (shown_plain label plain.0) (append-nil (label ++ 46 ∷ []))
written_labels (label ∷ second ∷ labels) some plain =
    let here : label_text label ≡ label ++ 46 ∷ [] = rw (shown_plain label plain.0) refl in
    let behind = written_labels (second ∷ labels) (omega arith) plain.1 in
    let after : List ℕ = joined (second ∷ labels) in
    let text : List ℕ = flat_map label_text (second ∷ labels) in
    ap (λ (front : List ℕ). front ++ text) here ∙ append_assoc label (46 ∷ []) text
    ∙ ap (λ (back : List ℕ). label ++ 46 ∷ back) behind ∙ sym (append_assoc label (46 ∷ after) (46 ∷ []))

plain_label : (label : List ℕ) → IsLabel label → list_all is_text_octet label ≡ true → IsTextLabel label
plain_label label is octets = record { some = is.some; octets = octets; short = is.short }

plain_labels : (labels : List (List ℕ)) → AllByRecursion IsLabel labels → IsPlain labels → AllByRecursion IsTextLabel labels
plain_labels [] each plain = tt
plain_labels (label ∷ labels) each plain = (plain_label label each.0 plain.0, plain_labels labels each.1 plain.1)

all_small : (labels : List (List ℕ)) → AllByRecursion IsLabel labels → labels ≡ map small_letters labels
all_small [] each = refl
all_small (label ∷ labels) each =
    ap (λ (first : List ℕ). first ∷ labels) (sym each.0.small) ∙ ap
    (λ (others : List (List ℕ)). small_letters label ∷ others) (all_small labels each.1)

pub TextOf-written : (name : List (List ℕ)) → IsName name → IsPlain name → TextOf name (text_of name)
TextOf-written [] is plain = root refl
TextOf-written (label ∷ labels) is plain =
    let name : List (List ℕ) = label ∷ labels in
    dotted name (omega arith) (plain_labels name is.each plain) (inr (written_labels name (omega arith) plain))
    (all_small name is.each) is.short
