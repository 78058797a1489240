-- Names that are read into octets of a value.
use Rattle.std.specs.Prelude.{◌≡◌, ◌+◌, ◌<◌, ◌≤◌, ℕ, List, length, take}
use Rattle.dns_name.specs.Labels.{wire_of}
use Rattle.dns_name.specs.Octets.{IsPadded}
use Rattle.dns_name.specs.Offsets.{NameAt, OctetAt}

-- whole labels stand one after the other from an offset of these octets to another one
pub data AreLabels (octets : List ℕ) (start : ℕ) : ℕ → Type 0 where
  none : AreLabels octets start start
  more : {p : ℕ} (n : ℕ) → AreLabels octets start p → OctetAt octets p n → 0 < n → n ≤ 63
      → p + 1 + n ≤ length octets
      → AreLabels octets start (p + 1 + n)

-- so many of 31 octets spell the name at an offset of a message, which ends before another one
pub record ShortNameAt (message : List ℕ) (offset : ℕ) (octets : List ℕ)
    (used end : ℕ) : Type 0 where
  pub name : List (List ℕ)
  pub stands : NameAt message offset offset name end
  pub spelled : take used octets ≡ wire_of name
  pub padded : IsPadded octets used
