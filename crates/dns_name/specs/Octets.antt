-- Where the octets of a name lie.
use Rattle.std.specs.Prelude.{◌≡◌, ℕ, ◌+◌, ◌≤◌, List, [], ◌∷◌, length, take, slice_index, slice_range}
use Rattle.std.specs.Int.{w64, from_le_bytes}

-- the octets: those in memory of their own, or, where there are none, the first ones in the value
abbrev pub octets_in : List ℕ → List ℕ → ℕ → List ℕ
octets_in [] inline length = take length inline
octets_in (octet ∷ octets) inline length = octet ∷ octets

-- 31 octets in the value, of which so many are in use and the others are 0
pub record IsPadded (inline : List ℕ) (used : ℕ) : Type 0 where
  pub size : length inline ≡ 31
  pub few : used ≤ 31
  pub zeros : (i : ℕ) → used ≤ i → slice_index inline i ≡ 0

-- eight octets from an offset on, as one number
abbrev pub word_from : List ℕ → ℕ → ℕ
word_from octets offset = from_le_bytes w64 (slice_range octets offset (offset + 8))

-- 31 octets as four numbers; one octet is in two of them
abbrev pub words_of : List ℕ → List ℕ
words_of octets =
    word_from octets 0 ∷ word_from octets 8 ∷ word_from octets 16 ∷ word_from octets 23 ∷ []
