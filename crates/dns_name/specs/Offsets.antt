-- A name at an offset of a message, which may end in a pointer to an earlier one (RFC 1035 3.1,
-- 4.1.4).
use Rattle.std.specs.Prelude.{◌≡◌, ℕ, ◌+◌, ◌*◌, ◌<◌, ◌≤◌, List, [], ◌∷◌, length, slice_index, slice_range}
use Rattle.dns_name.specs.Labels.{small_letters, wire_of}

-- this octet is at an offset of a message
pub record OctetAt (message : List ℕ) (offset octet : ℕ) : Type 0 where
  pub within : offset < length message
  pub is : slice_index message offset ≡ octet

-- These labels are at offset p, in a run of labels that began at s. The run, its closing 0 or
-- pointer included, ends at end.
pub data LabelsAt (message : List ℕ) : ℕ → ℕ → List (List ℕ) → ℕ → Type 0 where
  -- 0: there is no further label
  root : {p s end : ℕ} → OctetAt message p 0 → end ≡ p + 1 → LabelsAt message p s [] end
  -- n from 1 to 63: the next n octets are a label, and the run goes on after them
  label : {p s end : ℕ} {first : List ℕ} {labels : List (List ℕ)} (n : ℕ) → OctetAt message p n
      → 0 < n → n ≤ 63
      → first ≡ small_letters (slice_range message (p + 1) (p + 1 + n))
      → LabelsAt message (p + 1 + n) s labels end
      → LabelsAt message p s (first ∷ labels) end
  -- two top bits and 14 bits of an offset: the other labels are those at the offset. A run begins
  -- there, which lies before the present one as a whole.
  pointer : {p s end : ℕ} {labels : List (List ℕ)} (high low there : ℕ)
      → OctetAt message p (192 + high) → OctetAt message (p + 1) low
      → 256 * high + low < s
      → LabelsAt message (256 * high + low) (256 * high + low) labels there
      → there ≤ s
      → end ≡ p + 2
      → LabelsAt message p s labels end

-- A name of at most 255 octets is at offset p, in a run that began at s, and end is the offset
-- after it: after its closing 0, or after its first pointer.
pub record NameAt (message : List ℕ) (p s : ℕ) (name : List (List ℕ)) (end : ℕ) : Type 0 where
  pub labels : LabelsAt message p s name end
  pub short : length (wire_of name) ≤ 255
