-- What stands at offsets of a message (RFC 1035 2.3.2, 4.1).
use Rattle.std.specs.Prelude.{◌≡◌, ℕ, ◌+◌, ◌≤◌, List, [], ◌∷◌, length, slice_range}
use Rattle.std.specs.Int.{Width, byte_len, from_be_bytes}
use Rattle.dns_name.specs.Offsets.{NameAt}

-- a number of two or four octets is at an offset, the highest octet first (RFC 1035 2.3.2)
pub record NumberAt (w : Width) (message : List ℕ) (offset number : ℕ) : Type 0 where
  pub within : offset + byte_len w ≤ length message
  pub is : from_be_bytes w (slice_range message offset (offset + byte_len w)) ≡ number

-- these octets lie from one offset to another
pub record OctetsAt (message : List ℕ) (offset : ℕ) (octets : List ℕ) (end : ℕ) : Type 0 where
  pub size : offset + length octets ≡ end
  pub within : end ≤ length message
  pub are : slice_range message offset end ≡ octets

-- a name is at an offset, and begins a run of labels there (RFC 1035 4.1.4)
abbrev pub NamedAt : List ℕ → ℕ → Type 0
NamedAt message offset = (name : List (List ℕ)) × (end : ℕ) × NameAt message offset offset name end

-- these lie one after the other, from one offset to another
pub data AllAt {X : Type 0} (At : ℕ → X → ℕ → Type 0) : ℕ → List X → ℕ → Type 0 where
  none : {offset end : ℕ} → end ≡ offset → AllAt At offset [] end
  next : {offset end : ℕ} {first : X} {others : List X} (after : ℕ) → At offset first after
      → AllAt At after others end
      → AllAt At offset (first ∷ others) end
