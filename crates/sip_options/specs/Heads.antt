-- Headers of a message, and the empty line behind them (RFC 3261 7.3.1, 25.1).
use Rattle.std.specs.Prelude.{◌≡◌, ℕ, ◌<◌, ◌==◌, Bool, ◌||◌, IsTrue, List, [], ◌∷◌, ◌++◌, length, if◌then◌else◌, codes}
use Rattle.std.specs.List.{list_any}
use Rattle.std.specs.Char.{is_ascii_alphanumeric}
use Rattle.std.specs.Str.{str_eq_ignore_ascii_case}
use Rattle.sip_options.specs.Texts.{Many, IsOctet, IsWhite, is_blank, is_in_line}
use Rattle.sip_options.specs.declared.field.Field.{Field}
use Rattle.sip_options.specs.declared.field.Field.TheVariants.{Via, CallId, CSeq, ContentLength}

-- an octet of a token
abbrev pub is_token_octet : ℕ → Bool
is_token_octet octet =
    is_ascii_alphanumeric octet
    || list_any (λ (other : ℕ). other == octet) (codes "-.!%*_+`'~")

-- a piece of a header: an octet other than CR and LF, or a line break with a space or tab behind it
pub data IsHeaderPiece : List ℕ → Type 0 where
  plain : (octet : ℕ) → IsTrue (is_in_line octet) → IsHeaderPiece (octet ∷ [])
  fold : (blank : ℕ) → IsTrue (is_blank blank) → IsHeaderPiece (13 ∷ 10 ∷ blank ∷ [])

-- a header, its lines as they stand: what is before the colon and white space, and what follows
-- the colon
pub record Header : Type 0 where
  pub name : List ℕ
  pub value : List ℕ

-- a text is a header, without the line break at its end
pub record IsHeader (text : List ℕ) (header : Header) : Type 0 where
  pub white : List ℕ
  pub joined : text ≡ header.name ++ (white ++ 58 ∷ header.value)
  pub some : 0 < length header.name
  pub token : Many (IsOctet is_token_octet) header.name
  pub is_white : IsWhite white
  pub pieces : Many IsHeaderPiece text

-- a text is headers, each with a line break behind it, then an empty line, and then this
pub data HeadersText : List ℕ → List Header → List ℕ → Type 0 where
  empty_line : (text body : List ℕ) → text ≡ 13 ∷ 10 ∷ body → HeadersText text [] body
  header : (text line rest body : List ℕ) (first : Header) (headers : List Header)
      → IsHeader line first → HeadersText rest headers body → text ≡ line ++ 13 ∷ 10 ∷ rest
      → HeadersText text (first ∷ headers) body

-- a name is that of a header, long or short, in letters of any case (RFC 3261 7.3.1, 7.3.3)
abbrev pub is_field : Field → List ℕ → Bool
is_field Via name =
    str_eq_ignore_ascii_case name (codes "via") || str_eq_ignore_ascii_case name (codes "v")
is_field CallId name =
    str_eq_ignore_ascii_case name (codes "call-id") || str_eq_ignore_ascii_case name (codes "i")
is_field CSeq name = str_eq_ignore_ascii_case name (codes "cseq")
is_field ContentLength name =
    str_eq_ignore_ascii_case name (codes "content-length")
    || str_eq_ignore_ascii_case name (codes "l")

-- the values of all headers of a name, in order
abbrev pub values_at : Field → List Header → List (List ℕ)
values_at field [] = []
values_at field (first ∷ headers) =
    if is_field field first.name then first.value ∷ values_at field headers
    else values_at field headers
