-- Labels of texts: what is refused, and the labels of names that they write.
use Rattle.std.proofs.Common.{◌≡◌, ℕ, ◌+◌, ◌<◌, ◌≤◌, ◌==◌, List, [], ◌∷◌, ◌++◌, length, map, take, drop, get_or, Option, Some, None, refl, sym, ap, ◌∙◌, arith, append_assoc}
use Rattle.std.specs.List.{AllByRecursion, flat_map, join_with_byte}
use Rattle.std.specs.Option.{option_or}
use Rattle.std.proofs.lemmas.List.Splits.{length-slice_split, join_with_byte-slice_split}
use Rattle.std.proofs.lemmas.Bool.Decides.{nat_tests}
use Rattle.std.proofs.lemmas.List.{length-append, length-map, append-nil, map-append, drop_more, take_more, take_all, drop_all, take-append-drop}
use Rattle.std.specs.Char.{to_ascii_lowercase}
use Rattle.dns_name.specs.Labels.{IsLabel, IsName, small_letters, wire_of}
use Rattle.dns_name.specs.Texts.{IsTextLabel, label_text, label_fault, labels_fault, length_fault, dotted_fault, parted}
use Rattle.dns_name.specs.declared.refusal.NameRefusal.{NameRefusal}
use Rattle.dns_name.specs.declared.refusal.NameRefusal.TheVariants.{LongName}
use Rattle.dns_name.proofs.Runs.{small_twice}

pub IsTextLabel-from_none : (label : List ℕ) → label_fault label ≡ None → IsTextLabel label
IsTextLabel-from_none label none = record {
  some = grind (arith, nat_tests);
  octets = grind (arith, nat_tests);
  short = grind (arith, nat_tests);
}

pub no_fault : (label : List ℕ) → IsTextLabel label → label_fault label ≡ None
no_fault label is = grind (arith, nat_tests, is.some, is.octets, is.short)

pub IsLabel-small : (label : List ℕ) → IsTextLabel label → IsLabel (small_letters label)
IsLabel-small label is = record {
  some = rw length-map is.some;
  short = rw length-map is.short;
  small = small_twice label;
}

-- ---- two labels in front of a name

module _ (service proto : List ℕ) (name : List (List ℕ)) where
  pub length-prefixed : length (wire_of (small_letters service ∷ small_letters proto ∷ name))
      ≡ 2 + length service + length proto + length (wire_of name)
  length-prefixed =
      let text = small_letters proto ++ wire_of name in
      omega (
        arith,
        length-append (small_letters service) (length (small_letters proto) ∷ text),
        length-append (small_letters proto) (wire_of name),
        length-map service to_ascii_lowercase,
        length-map proto to_ascii_lowercase,
      )

  pub first_octets : (octets octets' text : List ℕ) → octets ≡ [] → text ≡ service → octets' ≡ octets ++ length text ∷ small_letters text
      → octets' ≡ length service ∷ small_letters service
  first_octets octets octets' text none same pushed = rw (pushed, none, same) refl

  pub prefixed_octets : (octets octets' : List ℕ) → octets ≡ length service ∷ small_letters service
      → octets' ≡ octets ++ length proto ∷ small_letters proto
      → octets' ++ wire_of name ≡ wire_of (small_letters service ∷ small_letters proto ∷ name)
  prefixed_octets octets octets' one two = rw (two, one) (simp (append_assoc, length-map))

  pub IsName-prefixed : IsTextLabel service → IsTextLabel proto → IsName name
      → 2 + length service + length proto + length (wire_of name) ≤ 255 → IsName (small_letters service ∷ small_letters proto ∷ name)
  IsName-prefixed is is' is'' short = record {
    each = (IsLabel-small service is, (IsLabel-small proto is', is''.each));
    short = omega (arith, length-prefixed);
  }

-- ---- labels one after the other

-- the octets of labels without the 0 of the root
abbrev pub spelled : List (List ℕ) → List ℕ
spelled labels = flat_map (λ (label : List ℕ). length label ∷ label) labels

pub spelled-closed : (labels : List (List ℕ)) → spelled labels ++ 0 ∷ [] ≡ wire_of labels
spelled-closed [] = refl
spelled-closed (label ∷ labels) =
    append_assoc (length label ∷ label) (spelled labels) (0 ∷ []) ∙ ap
    (λ (octets : List ℕ). length label ∷ label ++ octets) (spelled-closed labels)

-- ---- the text of a name, label by label

module _ (octets text whole : List ℕ) where
  pub next_text : (labels : List (List ℕ)) (text' label others : List ℕ) → AllByRecursion IsLabel labels → octets ≡ wire_of labels
      → text ++ flat_map label_text labels ≡ whole
      → (octets ≡ wire_of [] → ⊥)
      → ((l : List ℕ) (ls : List (List ℕ)) → IsLabel l → octets ≡ wire_of (l ∷ ls) → (label ≡ l) × (others ≡ wire_of ls))
      → text' ≡ text ++ label_text label
      → (labels' : List (List ℕ)) × AllByRecursion IsLabel labels' × (others ≡ wire_of labels')
      × (text' ++ flat_map label_text labels' ≡ whole)
  next_text [] text' label others each e so_far none some pushed = absurd (none e)
  next_text (l ∷ ls) text' label others each e so_far none some pushed =
      let k = some l ls each.0 e in
      (ls, each.1, k.1, rw (pushed, k.0) (append_assoc text (label_text l) (flat_map label_text ls) ∙ so_far))

  pub last_text : (labels : List (List ℕ)) → AllByRecursion IsLabel labels → octets ≡ wire_of labels
      → text ++ flat_map label_text labels ≡ whole
      → ((l : List ℕ) (ls : List (List ℕ)) → IsLabel l → octets ≡ wire_of (l ∷ ls) → ⊥) → text ≡ whole
  last_text [] each e so_far none = sym (append-nil text) ∙ so_far
  last_text (l ∷ ls) each e so_far none = absurd (none l ls each.0 e)

spelled-append : (a b : List (List ℕ)) → spelled (a ++ b) ≡ spelled a ++ spelled b
spelled-append [] b = refl
spelled-append (label ∷ a) b =
    ap (λ (octets : List ℕ). length label ∷ label ++ octets) (spelled-append a b) ∙ sym
    (append_assoc (length label ∷ label) (spelled a) (spelled b))

pub length-small : (labels : List (List ℕ)) → length (wire_of (map small_letters labels)) ≡ length (wire_of labels)
length-small [] = refl
length-small (label ∷ labels) =
    omega (
      arith,
      length-append (small_letters label) (wire_of (map small_letters labels)),
      length-append label (wire_of labels),
      length-map label to_ascii_lowercase,
      length-small labels,
    )

-- the octets of the first labels are among those of all
length-spelled-first : (labels : List (List ℕ)) (count : ℕ)
    → length (spelled (map small_letters (take count labels))) ≤ length (spelled (map small_letters labels))
length-spelled-first labels count =
    let first : List (List ℕ) = map small_letters (take count labels) in
    let rest : List (List ℕ) = map small_letters (drop count labels) in
    let all : spelled (map small_letters labels) ≡ spelled first ++ spelled rest =
    ap (λ (ls : List (List ℕ)). spelled (map small_letters ls)) (sym (take-append-drop count labels)) ∙ ap spelled
    (map-append small_letters (take count labels) (drop count labels)) ∙ spelled-append first rest in
    omega (arith, ap length all, length-append (spelled first) (spelled rest))

one_spelled : (label : List ℕ) → spelled (label ∷ []) ≡ length label ∷ label
one_spelled label = append-nil (length label ∷ label)

-- ---- the labels of a text, one after the other

pub option_or_none : (a b : Option NameRefusal) → option_or a b ≡ None → (a ≡ None) × (b ≡ None)
option_or_none None b e = (refl, e)
option_or_none (Some x) b e = absurd cc

no_fault_here : (label : List ℕ) (labels : List (List ℕ)) → labels_fault (label ∷ labels) ≡ None
    → (label_fault label ≡ None) × (labels_fault labels ≡ None)
no_fault_here label labels none = option_or_none (label_fault label) (labels_fault labels) none

module _ (labels : List (List ℕ)) (count : ℕ) (label : List ℕ) (within : count < length labels)
    (is : label ≡ get_or labels count label) where
  here : drop count labels ≡ label ∷ drop (count + 1) labels
  here = drop_more labels count label within ∙ ap (λ (l : List ℕ). l ∷ drop (count + 1) labels) (sym is)

  pub has_fault : (fault : NameRefusal) → labels_fault (drop count labels) ≡ labels_fault labels → label_fault label ≡ Some fault
      → dotted_fault labels ≡ Some fault
  has_fault fault faultless bad = rw (← faultless, here, bad) refl

  pub goes_on : labels_fault (drop count labels) ≡ labels_fault labels → label_fault label ≡ None
      → labels_fault (drop (count + 1) labels) ≡ labels_fault labels
  goes_on faultless good =
      let one : labels_fault (drop count labels) ≡ labels_fault (drop (count + 1) labels) = rw (here, good) refl in
      sym one ∙ faultless

  pub spelled-more : spelled (map small_letters (take (count + 1) labels))
      ≡ spelled (map small_letters (take count labels)) ++ length label ∷ small_letters label
  spelled-more =
      let more : take (count + 1) labels ≡ take count labels ++ label ∷ [] =
      take_more labels count label within ∙ ap (λ (l : List ℕ). take count labels ++ l ∷ []) (sym is) in
      let mapped = ap (map small_letters) more ∙ map-append small_letters (take count labels) (label ∷ []) in
      ap spelled mapped ∙ spelled-append (map small_letters (take count labels)) (small_letters label ∷ []) ∙ ap
      (λ (octets : List ℕ). spelled (map small_letters (take count labels)) ++ octets)
      (one_spelled (small_letters label) ∙ ap (λ (n : ℕ). n ∷ small_letters label) (length-map label to_ascii_lowercase))

  -- the label leaves room for the closing 0
  pub has_room : (limit : ℕ) → length (wire_of (map small_letters labels)) ≤ limit
      → length (spelled (map small_letters (take count labels))) + length label + 2 ≤ limit
  has_room limit short =
      let first : List (List ℕ) = map small_letters (take count labels) in
      let all : List (List ℕ) = map small_letters labels in
      omega (
        arith,
        short,
        ap length (spelled-closed all),
        length-append (spelled all) (0 ∷ []),
        length-spelled-first labels (count + 1),
        ap length spelled-more,
        length-append (spelled first) (length label ∷ small_letters label),
        length-map label to_ascii_lowercase,
      )

  pub good_label : labels_fault (drop count labels) ≡ None → label_fault label ≡ None
  good_label faultless = (no_fault_here label (drop (count + 1) labels) (sym (ap labels_fault here) ∙ faultless)).0

length-joined : (labels : List (List ℕ)) → 0 < length labels → length (wire_of labels) ≡ length (join_with_byte 46 labels) + 2
length-joined [] some = absurd (omega arith)
length-joined (label ∷ []) some = omega (arith, length-append label (0 ∷ []))
length-joined (label ∷ next ∷ labels) some =
    omega (
      arith,
      length-joined (next ∷ labels) (omega arith),
      length-append label (wire_of (next ∷ labels)),
      length-append label (46 ∷ join_with_byte 46 (next ∷ labels)),
    )

-- a text and the octets of its labels
pub length-wire : (text : List ℕ) → length (wire_of (parted text)) ≡ length text + 2
length-wire text =
    let some : 0 < length (parted text) = omega (arith, length-slice_split (λ (octet : ℕ). octet == 46) text) in
    length-joined (parted text) some ∙ ap (λ (octets : List ℕ). length octets + 2) (join_with_byte-slice_split 46 text)

-- the octets of all labels, with the closing 0
pub spelled-whole : (labels : List (List ℕ)) (count : ℕ) (octets : List ℕ) → count ≡ length labels
    → octets ≡ spelled (map small_letters (take count labels)) → octets ++ 0 ∷ [] ≡ wire_of (map small_letters labels)
spelled-whole labels count octets all e = rw (e, take_all count labels (omega arith)) (spelled-closed (map small_letters labels))

pub faultless_labels : (labels : List (List ℕ)) → dotted_fault labels ≡ None → labels_fault labels ≡ None
faultless_labels labels none = (option_or_none (labels_fault labels) (length_fault labels) none).0

module _ (text : List ℕ) (count : ℕ) (all : count ≡ length (parted text))
    (faultless : labels_fault (drop count (parted text)) ≡ labels_fault (parted text)) where
  no_labels_fault : labels_fault (parted text) ≡ None
  no_labels_fault = sym faultless ∙ ap labels_fault (drop_all count (parted text) (omega arith))

  pub dotted_short : length text + 2 ≤ 255 → dotted_fault (parted text) ≡ None
  dotted_short short = rw no_labels_fault (grind (arith, nat_tests, length-wire text))

  pub dotted_long : 255 < length text + 2 → dotted_fault (parted text) ≡ Some LongName
  dotted_long long = rw no_labels_fault (grind (arith, nat_tests, length-wire text))
