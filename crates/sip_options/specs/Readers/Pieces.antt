-- The lengths of pieces in front of a text.
use Rattle.std.specs.Prelude.{◌≡◌, ℕ, ◌==◌, not, ◌&&◌, ◌||◌, List, [], ◌∷◌, ◌++◌, length, Option, Some, None, if◌then◌else◌}
use Rattle.sip_options.specs.Texts.{Many, is_blank, is_in_line}
use Rattle.sip_options.specs.Vias.{IsQuotedPiece, is_mark}

abbrev pub one_in_line : ℕ → Option ℕ
one_in_line octet = if is_in_line octet then Some 1 else None

-- an octet of a line, or a line break with a blank behind it
abbrev pub header_piece : List ℕ → Option ℕ
header_piece [] = None
header_piece (x ∷ []) = one_in_line x
header_piece (x ∷ y ∷ []) = one_in_line x
header_piece (x ∷ y ∷ z ∷ text) =
    if x == 13 && y == 10 && is_blank z then Some 3 else one_in_line x

abbrev pub one_in_quotes : ℕ → Option ℕ
one_in_quotes octet = if not (octet == 34 || octet == 92) then Some 1 else None

-- an octet of a quoted string, or `\` and any octet
abbrev pub quoted_piece : List ℕ → Option ℕ
quoted_piece [] = None
quoted_piece (x ∷ []) = one_in_quotes x
quoted_piece (x ∷ y ∷ text) = if x == 92 then Some 2 else one_in_quotes x

-- an octet that ends no part
abbrev pub plain_piece : List ℕ → Option ℕ
plain_piece [] = None
plain_piece (x ∷ text) = if is_mark x then None else Some 1

-- so many octets are the inner ones of a quoted string, and then comes the quote
pub record IsQuotedLength (text : List ℕ) (count : ℕ) : Type 0 where
  pub inner : List ℕ
  pub rest : List ℕ
  pub are : Many IsQuotedPiece inner
  pub is : count ≡ length inner
  pub joined : text ≡ inner ++ 34 ∷ rest
