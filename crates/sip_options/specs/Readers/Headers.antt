-- What the readers of headers find.
use Rattle.std.specs.Borrow.{Bor}
use Rattle.std.specs.Prelude.{◌≡◌, ℕ, List, [], ◌∷◌, ◌++◌, if◌then◌else◌, Option, Some, None}
use Rattle.sip_options.specs.Heads.{Header, IsHeader, IsHeaderPiece, is_field}
use Rattle.sip_options.specs.Texts.{Ends}
use Rattle.sip_options.specs.declared.field.Field.{Field}
use Rattle.sip_options.specs.declared.header.Header as code
use Rattle.sip_options.specs.declared.values.Values.{Values}
use Rattle.sip_options.specs.declared.values.Values.TheVariants as values

-- the header that a view shows
abbrev pub header_of : code.Header → Header
header_of header = record { name = header.name.now; value = header.value.now }

-- a header and its line break are in front of a text, and no line that continues it
pub record BeginsHeader (text : List ℕ) (header : Header) (rest : List ℕ) : Type 0 where
  pub line : List ℕ
  pub is : IsHeader line header
  pub ends : Ends IsHeaderPiece (13 ∷ 10 ∷ rest)
  pub joined : text ≡ line ++ 13 ∷ 10 ∷ rest

-- none, one, or the first of several values
abbrev pub Are : Values → List (List ℕ) → Type 0
Are values.Nothing all = all ≡ []
Are (values.One value) all = all ≡ value.now ∷ []
Are (values.Several value) all =
    (next : List ℕ) × (others : List (List ℕ)) × (all ≡ value.now ∷ next ∷ others)

-- values, with that of a header behind them where it has the name
abbrev pub with_header : Field → List (List ℕ) → Header → List (List ℕ)
with_header field all header =
    if is_field field header.name then all ++ header.value ∷ [] else all

-- the value is the only one
abbrev pub IsOnly : List (List ℕ) → Option (Bor (List ℕ)) → Type 0
IsOnly all None = (value : List ℕ) → all ≡ value ∷ [] → ⊥
IsOnly all (Some value) = all ≡ value.now ∷ []

-- the value is the first one
abbrev pub IsFirst : List (List ℕ) → Option (Bor (List ℕ)) → Type 0
IsFirst all None = all ≡ []
IsFirst all (Some value) = (others : List (List ℕ)) × (all ≡ value.now ∷ others)
