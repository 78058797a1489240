-- Octets of names that are read into a value: how they grow by a label, and how they end.
use Rattle.std.proofs.Common.{◌≡◌, ℕ, ◌+◌, ◌<◌, ◌≤◌, List, [], ◌∷◌, ◌++◌, length, slice_range, sym, ap, ◌∙◌, arith, append_assoc}
use Rattle.std.proofs.lemmas.List.{length-map, length-append}
use Rattle.std.specs.Char.{to_ascii_lowercase}
use Rattle.dns_name.specs.Labels.{small_letters}
use Rattle.dns_name.specs.Offsets.{OctetAt}
use Rattle.dns_name.proofs.SmallRuns.{small_grows, small_ends}

-- the run goes on with an octet that is no capital
pub short_grows : (message passed : List ℕ) (s p q octet : ℕ) → OctetAt message p octet → octet ≤ 63 → s ≤ p → p < q
    → passed ++ small_letters (slice_range message s q)
    ≡ (passed ++ small_letters (slice_range message s p)) ++ octet ∷ small_letters (slice_range message (p + 1) q)
short_grows message passed s p q octet here short le lt =
    let behind : List ℕ = octet ∷ small_letters (slice_range message (p + 1) q) in
    ap (λ (l : List ℕ). passed ++ l) (small_grows message [] s p q octet here short le lt)
    ∙ sym (append_assoc passed (small_letters (slice_range message s p)) behind)

-- its closing 0 behind it
pub short_ends : (message passed : List ℕ) (s p : ℕ) → OctetAt message p 0 → s ≤ p
    → passed ++ small_letters (slice_range message s (p + 1)) ≡ (passed ++ small_letters (slice_range message s p)) ++ 0 ∷ []
short_ends message passed s p here le =
    ap (λ (l : List ℕ). passed ++ l) (small_ends message [] s p here le)
    ∙ sym (append_assoc passed (small_letters (slice_range message s p)) (0 ∷ []))

pub short_length : (message passed : List ℕ) (s p : ℕ) → length (slice_range message s p) + s ≡ p
    → length (passed ++ small_letters (slice_range message s p)) + s ≡ length passed + p
short_length message passed s p size =
    omega (
      arith,
      size,
      length-map (slice_range message s p) to_ascii_lowercase,
      length-append passed (small_letters (slice_range message s p)),
    )
