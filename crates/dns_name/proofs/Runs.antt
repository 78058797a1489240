-- Runs of labels: where they end, what their labels are, and how they go on from what stands at an offset.
use Rattle.std.proofs.Common.{◌≡◌, ℕ, ◌+◌, ◌*◌, ◌<◌, ◌≤◌, List, [], ◌∷◌, length, slice_range, refl, sym, ap, ◌∙◌, arith}
use Rattle.std.specs.List.{AllByRecursion}
use Rattle.std.proofs.lemmas.List.{length-take, length-drop, length-map}
use Rattle.dns_name.specs.Labels.{IsLabel, IsName, small_letters}
use Rattle.std.specs.Char.{to_ascii_lowercase}
use Rattle.std.proofs.lemmas.Bool.Decides.{nat_tests}
use Rattle.dns_name.specs.Offsets.{OctetAt, LabelsAt, root, label, pointer, NameAt}

pub ends_later : (message : List ℕ) {p s end : ℕ} {labels : List (List ℕ)} → LabelsAt message p s labels end → p < end
ends_later message (root o e) = omega arith
ends_later message (label n o some short f rest) = omega (arith, ends_later message rest)
ends_later message (pointer high low there o o' back rest before e) = omega arith

pub ends_within : (message : List ℕ) {p s end : ℕ} {labels : List (List ℕ)} → LabelsAt message p s labels end → end ≤ length message
ends_within message (root o e) = omega (arith, o.within)
ends_within message (label n o some short f rest) = ends_within message rest
ends_within message (pointer high low there o o' back rest before e) = omega (arith, o'.within)

-- n octets behind the length at p
pub length-label : (message : List ℕ) (p n : ℕ) → p + 1 + n ≤ length message
    → length (small_letters (slice_range message (p + 1) (p + 1 + n))) ≡ n
length-label message p n le = simp (length-map, length-take, length-drop) (omega arith)

-- ---- what stands at an offset decides how labels go on there

pub from_root : (message : List ℕ) {p s end : ℕ} {labels : List (List ℕ)} → OctetAt message p 0 → LabelsAt message p s labels end
    → (labels ≡ []) × (end ≡ p + 1)
from_root message here (root o e) = (refl, e)
from_root message here (label n o some short f rest) = absurd (omega (arith, here.is, o.is))
from_root message here (pointer high low there o o' back rest before e) = absurd (omega (arith, here.is, o.is))

pub from_label : (message : List ℕ) (p s n : ℕ) {end : ℕ} {labels : List (List ℕ)} → OctetAt message p n → 0 < n → n ≤ 63
    → LabelsAt message p s labels end
    → (others : List (List ℕ)) × (labels ≡ small_letters (slice_range message (p + 1) (p + 1 + n)) ∷ others)
    × LabelsAt message (p + 1 + n) s others end
from_label message p s n here some short (root o e) = absurd (omega (arith, here.is, o.is))
from_label message p s n here some short (label {labels = labels} k o some' short' f rest) =
    let same : k ≡ n = omega (arith, here.is, o.is) in
    (labels, rw (f, same) refl, rw same at rest)
from_label message p s n here some short (pointer high low there o o' back rest before e) = absurd (omega (arith, here.is, o.is))

pub from_pointer : (message : List ℕ) (p s high low : ℕ) {end : ℕ} {labels : List (List ℕ)} → OctetAt message p (192 + high)
    → OctetAt message (p + 1) low → LabelsAt message p s labels end
    → (there : ℕ) × (256 * high + low < s) × LabelsAt message (256 * high + low) (256 * high + low) labels there × (there ≤ s)
    × (end ≡ p + 2)
from_pointer message p s high low here here' (root o e) = absurd (omega (arith, here.is, o.is))
from_pointer message p s high low here here' (label n o some short f rest) = absurd (omega (arith, here.is, o.is))
from_pointer message p s high low here here' (pointer high' low' there o o' back rest before e) =
    let same : high' ≡ high = omega (arith, here.is, o.is) in
    let same' : low' ≡ low = sym o'.is ∙ here'.is in
    (there, rw (same, same') at back, rw (same, same') at rest, before, e)

-- ---- one name at an offset

pub one_reading : (message : List ℕ) {p s end end' : ℕ} {labels labels' : List (List ℕ)} → LabelsAt message p s labels end
    → LabelsAt message p s labels' end' → (labels ≡ labels') × (end ≡ end')
one_reading message (root o e) other =
    let k = from_root message o other in
    (sym k.0, e ∙ sym k.1)
one_reading message {p = p} {s = s} (label {labels = labels} n o some short f rest) other =
    let k = from_label message p s n o some short other in
    let same = one_reading message rest k.2 in
    (cc, same.1)
one_reading message {p = p} {s = s} (pointer high low there o o' back rest before e) other =
    let k = from_pointer message p s high low o o' other in
    let same = one_reading message rest k.2 in
    (same.0, e ∙ sym k.4)

-- ---- labels at an offset are labels

pub small_twice : (octets : List ℕ) → small_letters (small_letters octets) ≡ small_letters octets
small_twice [] = refl
small_twice (octet ∷ octets) =
    let once : to_ascii_lowercase (to_ascii_lowercase octet) ≡ to_ascii_lowercase octet = grind (arith, nat_tests) in
    cc (small_twice octets)

pub each_label : (message : List ℕ) {p s end : ℕ} {labels : List (List ℕ)} → LabelsAt message p s labels end → AllByRecursion IsLabel labels
each_label message (root o e) = tt
each_label message {p = p} (label {first = first} n o some short f rest) =
    let n-is : length first ≡ n =
    ap length f ∙ length-label message p n (omega (arith, ends_later message rest, ends_within message rest)) in (
      record { some = omega arith; short = omega arith; small = rw f (small_twice (slice_range message (p + 1) (p + 1 + n))) },
      each_label message rest,
    )
each_label message (pointer high low there o o' back rest before e) = each_label message rest

pub IsName-at : (message : List ℕ) {p s end : ℕ} {name : List (List ℕ)} → NameAt message p s name end → IsName name
IsName-at message at = record { each = each_label message at.labels; short = at.short }
