-- Hostnames are what their reader accepts, and each spells one name.
use Rattle.std.proofs.Common.{◌≡◌, ℕ, ◌+◌, ◌-◌, ◌<◌, ◌≤◌, Bool, true, false, ◌&&◌, List, [], ◌∷◌, length, map, slice_index, refl, ap, ◌∙◌, arith, nat_lt, nat_le}
use Rattle.std.specs.List.{AllByRecursion, list_all}
use Rattle.std.specs.Char.{is_ascii_alphanumeric, is_ascii_alphabetic, to_ascii_lowercase}
use Rattle.std.proofs.lemmas.Bool.Decides.{nat_tests}
use Rattle.std.proofs.lemmas.List.Splits.{join_with_byte-slice_split}
use Rattle.std.proofs.lemmas.List.{length-append, length-map}
use Rattle.dns_name.proofs.ClosingDots.{joined, dotted_parts, parts_of}
use Rattle.dns_name.specs.Labels.{small_letters, wire_of}
use Rattle.dns_name.specs.Texts.{is_text_octet, IsTextLabel, TextOf, dotted, without_closing_dot}
use Rattle.ip_text.specs.Parts.{parted}
use Rattle.sip_uri.specs.Hosts.{is_label_octet, HostLabel, AreHostLabels, DomainText}
use Rattle.sip_uri.specs.Readers.Hostnames.{is_label, are_labels, is_hostname}
use Rattle.sip_uri.specs.Views.{name_of}
use Rattle.ip_text.proofs.Lists.{all_weaker}

pub both_of : (a b : Bool) → a && b ≡ true → (a ≡ true) × (b ≡ true)
both_of true b e = (refl, e)
both_of false b e = absurd cc

-- ---- labels

label_read : (label : List ℕ) → is_label label ≡ true → HostLabel label
label_read label e =
    let last = both_of _ (is_ascii_alphanumeric (slice_index label (length label - 1))) e in
    let first = both_of _ (is_ascii_alphanumeric (slice_index label 0)) last.0 in
    let octets = both_of (nat_lt 0 (length label) && nat_le (length label) 63) (list_all is_label_octet label) first.0 in
    record {
      some = grind (arith, nat_tests, octets.0);
      short = grind (arith, nat_tests, octets.0);
      octets = octets.1;
      first = first.1;
      last = last.1;
    }

label_again : (label : List ℕ) → HostLabel label → is_label label ≡ true
label_again label is =
    let size : nat_lt 0 (length label) && nat_le (length label) 63 ≡ true = grind (arith, nat_tests, is.some, is.short) in
    rw (size, is.octets, is.first, is.last) refl

labels_read : (labels : List (List ℕ)) → are_labels labels ≡ true → AreHostLabels labels
labels_read [] e = absurd cc
labels_read (label ∷ []) e =
    let k = both_of (is_label label) (is_ascii_alphabetic (slice_index label 0)) e in
    (label_read label k.0, k.1)
labels_read (label ∷ next ∷ labels) e =
    let k = both_of (is_label label) (are_labels (next ∷ labels)) e in
    (label_read label k.0, labels_read (next ∷ labels) k.1)

labels_again : (labels : List (List ℕ)) → AreHostLabels labels → are_labels labels ≡ true
labels_again [] are = absurd are
labels_again (label ∷ []) are = rw (label_again label are.0) are.1
labels_again (label ∷ next ∷ labels) are = rw (label_again label are.0) (labels_again (next ∷ labels) are.1)

some_labels : (labels : List (List ℕ)) → AreHostLabels labels → 0 < length labels
some_labels [] are = absurd are
some_labels (label ∷ labels) are = omega arith

each_label : (labels : List (List ℕ)) → AreHostLabels labels → AllByRecursion HostLabel labels
each_label [] are = absurd are
each_label (label ∷ []) are = (are.0, tt)
each_label (label ∷ next ∷ labels) are = (are.0, each_label (next ∷ labels) are.1)

label_of_text : (label : List ℕ) → HostLabel label → IsTextLabel label
label_of_text label is = record {
  some = is.some;
  octets = all_weaker is_label_octet is_text_octet (λ x e. grind (arith, nat_tests)) label is.octets;
  short = is.short;
}

labels_of_text : (labels : List (List ℕ)) → AllByRecursion HostLabel labels → AllByRecursion IsTextLabel labels
labels_of_text [] each = tt
labels_of_text (label ∷ labels) each = (label_of_text label each.0, labels_of_text labels each.1)

-- ---- lengths

wire_length : (labels : List (List ℕ)) → 0 < length labels → length (wire_of (map small_letters labels)) ≡ length (joined labels) + 2
wire_length [] some = absurd (omega arith)
wire_length (label ∷ []) some = omega (arith, length-append (small_letters label) (0 ∷ []), length-map label to_ascii_lowercase)
wire_length (label ∷ next ∷ labels) some =
    omega (
      arith,
      wire_length (next ∷ labels) (omega arith),
      length-append (small_letters label) (wire_of (map small_letters (next ∷ labels))),
      length-append label
          (46 ∷ joined (next ∷ labels)),
      length-map label to_ascii_lowercase,
    )

-- ---- hostnames

pub hostname_read : (text : List ℕ) → is_hostname text ≡ true → DomainText text (name_of text)
hostname_read text e =
    let front : List ℕ = without_closing_dot text in
    let k = both_of (nat_le (length front) 253) (are_labels (parted 46 front)) e in
    let are = labels_read (parted 46 front) k.1 in
    let back : joined (parted 46 front) ≡ front = join_with_byte-slice_split 46 front in
    let len = wire_length (parted 46 front) (some_labels (parted 46 front) are) in
    let size = k.0 in
    record {
      labels = parted 46 front;
      are = are;
      dotted = dotted_parts text;
      named = refl;
      short = (let low : length front ≤ 253 = grind (arith, nat_tests, size) in omega (arith, len, ap length back));
    }

pub hostname_again : (text : List ℕ) (name : List (List ℕ)) → DomainText text name → (is_hostname text ≡ true) × (name ≡ name_of text)
hostname_again text name is =
    let front : List ℕ = without_closing_dot text in
    let some = some_labels is.labels is.are in
    let parts : parted 46 front ≡ is.labels =
    parts_of is.labels text some (labels_of_text is.labels (each_label is.labels is.are)) is.dotted in
    let back : joined is.labels ≡ front = rw parts at (join_with_byte-slice_split 46 front) in
    let len = wire_length is.labels some in
    let low : length front ≤ 253 =
    omega (arith, len, ap length back, ap (λ (n : List (List ℕ)). length (wire_of n)) is.named, is.short) in
    let size : nat_le (length front) 253 ≡ true = grind (arith, nat_tests) in
    (rw (parts, size) (labels_again is.labels is.are), is.named ∙ rw parts refl)

-- a hostname is a text of its name
pub TextOf-hostname : (text : List ℕ) (name : List (List ℕ)) → DomainText text name → TextOf name text
TextOf-hostname text name is =
    dotted is.labels (some_labels is.labels is.are) (labels_of_text is.labels (each_label is.labels is.are)) is.dotted is.named is.short
