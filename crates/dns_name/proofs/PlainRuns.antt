-- Runs of labels that are read in one piece.
use Rattle.std.proofs.Common.{◌≡◌, ℕ, ◌+◌, ◌*◌, ◌≤◌, List, [], ◌++◌, length, take, drop, slice_range, refl, ap, ◌∙◌, arith, None}
use Rattle.std.proofs.lemmas.List.{length-map}
use Rattle.std.specs.Char.{to_ascii_lowercase}
use Rattle.dns_name.specs.Labels.{small_letters, wire_of}
use Rattle.dns_name.specs.Octets.{IsPadded}
use Rattle.dns_name.specs.Offsets.{OctetAt, LabelsAt, pointer, NameAt}
use Rattle.dns_name.specs.Pieces.{PointerPiece}
use Rattle.dns_name.specs.ShortNames.{AreLabels, none, more, ShortNameAt}
use Rattle.dns_name.proofs.Finding.{Finding, begun, past_label, found}
use Rattle.dns_name.proofs.Padding.{IsPadded-more, take-more}
use Rattle.dns_name.proofs.Runs.{ends_later}
use Rattle.dns_name.proofs.ShortRuns.{short_grows, short_ends, short_length}
use Rattle.dns_name.proofs.SmallRuns.{run_none, run_size}

pub labels_forward : (message : List ℕ) (start end : ℕ) → AreLabels message start end → start ≤ end
labels_forward message start end none = omega arith
labels_forward message start end (more {p} n front here some short within) =
    omega (arith, labels_forward message start p front)

-- a run goes on behind them
pub past_labels : (message : List ℕ) (start end : ℕ) → AreLabels message start end
    → Finding message start end start (length message) (small_letters (slice_range message start end)) None
past_labels message start end none =
    rw (run_none message start) (begun message start)
past_labels message start end (more {p} n front here some short within) =
    past_label message start p start (length message) (small_letters (slice_range message start p)) None
    (past_labels message start p front) n (small_letters (slice_range message start (p + 1 + n))) here some short
    (short_grows message [] start p (p + 1 + n) n here short (labels_forward message start p front) (omega arith))

named : (message octets : List ℕ) (name : List (List ℕ)) (start end count : ℕ) → NameAt message start start name end
    → end ≡ start + count → take count octets ≡ wire_of name → IsPadded octets count
    → ShortNameAt message start octets count (start + count)
named message octets name start end count stands is spelled padded =
    record { name = name; stands = rw is at stands; spelled = spelled; padded = padded }

-- the name of a run that was copied over zeros
pub plain_name : (message octets octets' : List ℕ) (start end count : ℕ) → AreLabels message start end → OctetAt message end 0
    → end ≤ start + 30 → IsPadded octets 0
    → octets' ≡ take 0 octets
    ++ (small_letters (slice_range message start (end + 1)) ++ drop (0 + length (slice_range message start (end + 1))) octets)
    → count + start ≡ end + 1
    → ShortNameAt message start octets' count (start + count)
plain_name message octets octets' start end count labels here few zeros put is =
    let le = labels_forward message start end labels in
    let run : List ℕ = slice_range message start (end + 1) in
    let whole : length run + start ≡ end + 1 = run_size message start (end + 1) (omega (arith, le)) (omega (arith, here.within)) in
    let size : 0 + length run ≡ count = omega (arith, whole, is) in
    let size' : 0 + length (small_letters run) ≡ count = omega (arith, size, length-map run to_ascii_lowercase) in
    let short : count ≤ 31 = omega (arith, is, few) in
    let put' : octets' ≡ take 0 octets ++ (small_letters run ++ drop count octets) = rw size at put in
    let long = short_length message [] start end (run_size message start end le (omega (arith, here.within))) in
    let k = found message start end start (length message) (small_letters (slice_range message start end)) None
    (past_labels message start end labels) here (omega (arith, here.within)) (omega (arith, long, few)) in
    named message octets' k.0 start (end + 1) count k.1 (omega (arith, is))
    (ap (take count) put' ∙ take-more octets (small_letters run) 0 count zeros size' short ∙ short_ends message [] start end here le ∙ k.2)
    (rw put' (IsPadded-more octets (small_letters run) 0 count zeros size' short))

-- a pointer to a run is its name
points : (message : List ℕ) (name : List (List ℕ)) (at target there : ℕ) → PointerPiece message at target
    → NameAt message target target name there → there ≤ at
    → NameAt message at at name (at + 2)
points message name at target there piece stands within =
    let here : LabelsAt message (256 * piece.high + piece.low) (256 * piece.high + piece.low) name there =
    rw piece.leads at stands.labels in
    record {
      labels = pointer piece.high piece.low there piece.first piece.second (omega (arith, ends_later message here, within)) here within refl;
      short = stands.short;
    }

pub pointed_name : (message octets : List ℕ) (at target count : ℕ) → PointerPiece message at target
    → ShortNameAt message target octets count (target + count) → target + count ≤ at
    → ShortNameAt message at octets count (at + 2)
pointed_name message octets at target count piece name within =
    record {
      name = name.name;
      stands = points message name.name at target (target + count) piece name.stands within;
      spelled = name.spelled;
      padded = name.padded;
    }
