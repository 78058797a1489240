-- What a reader of names finds at an offset of a run of labels (RFC 1035 3.1, 4.1.4).
use Rattle.std.specs.Prelude.{◌≡◌, ℕ, ◌+◌, ◌*◌, ◌<◌, ◌≤◌, List, length, take, slice_range}
use Rattle.dns_name.specs.Offsets.{OctetAt, LabelsAt}
use Rattle.dns_name.specs.declared.message.Piece.{Piece}
use Rattle.dns_name.specs.declared.message.Piece.TheVariants.{Root, Label, Pointer}

-- a whole label after its length
pub record LabelPiece (octets : List ℕ) (offset : ℕ) (label : List ℕ) : Type 0 where
  pub some : 0 < length label
  pub short : length label ≤ 63
  pub behind : OctetAt octets offset (length label)
  pub is : label ≡ slice_range octets (offset + 1) (offset + 1 + length label)

-- a pointer, and where it leads
pub record PointerPiece (octets : List ℕ) (offset target : ℕ) : Type 0 where
  pub high : ℕ
  pub low : ℕ
  pub first : OctetAt octets offset (192 + high)
  pub second : OctetAt octets (offset + 1) low
  pub leads : target ≡ 256 * high + low

abbrev pub PieceAt : List ℕ → ℕ → Piece → Type 0
PieceAt octets offset Root = OctetAt octets offset 0
PieceAt octets offset (Label label) = LabelPiece octets offset label.now
PieceAt octets offset (Pointer target) = PointerPiece octets offset target

-- in a message that begins with these octets no run of labels goes on at the offset and ends within
-- them
abbrev pub NothingAt : List ℕ → ℕ → Type 0
NothingAt octets offset = (message : List ℕ) (s end : ℕ) (labels : List (List ℕ))
    → octets ≡ take (length octets) message → LabelsAt message offset s labels end
    → length octets < end
