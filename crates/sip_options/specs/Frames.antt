-- Messages in front of a stream (RFC 3261 18.3).
use Rattle.std.specs.Prelude.{◌≡◌, ℕ, ◌+◌, ◌<◌, ◌≤◌, List, [], ◌∷◌, ◌++◌, length}
use Rattle.sip_options.specs.Fields.{LengthOf}
use Rattle.sip_options.specs.Heads.{Header, HeadersText, values_at}
use Rattle.sip_options.specs.Texts.{Many, IsOctet, is_in_line}
use Rattle.sip_options.specs.declared.field.Field.TheVariants.{ContentLength}

-- octets begin with the head of a message: a line, headers and an empty line; and then this
pub record HasHead (octets : List ℕ) (headers : List Header) (rest : List ℕ) : Type 0 where
  pub line : List ℕ
  pub text : List ℕ
  pub joined : octets ≡ line ++ 13 ∷ 10 ∷ text
  pub is_line : Many (IsOctet is_in_line) line
  pub are : HeadersText text headers rest

-- octets begin with a head, which says how long the whole message is
pub record SaysLength (octets : List ℕ) (size : ℕ) : Type 0 where
  pub headers : List Header
  pub rest : List ℕ
  pub head : HasHead octets headers rest
  pub body : ℕ
  pub is_body : LengthOf (values_at ContentLength headers) body
  pub is : size + length rest ≡ length octets + body

-- octets begin with a whole message of this length, at most 65,535
pub record IsFrame (octets : List ℕ) (size : ℕ) : Type 0 where
  pub says : SaysLength octets size
  pub whole : size ≤ length octets
  pub short : size ≤ 65535

-- octets begin with a head whose Content-Length is no number, or stands twice
pub record HasBadLength (octets : List ℕ) : Type 0 where
  pub headers : List Header
  pub rest : List ℕ
  pub head : HasHead octets headers rest
  pub bad : (body : ℕ) → LengthOf (values_at ContentLength headers) body → ⊥

-- octets begin with a message of more than 65,535 octets, or are so many without a head
pub data IsTooLong (octets : List ℕ) : Type 0 where
  said : (size : ℕ) → SaysLength octets size → 65535 < size → IsTooLong octets
  headless : 65535 ≤ length octets
      → ((headers : List Header) (rest : List ℕ) → HasHead octets headers rest → ⊥)
      → IsTooLong octets

-- a text is an empty line
abbrev pub IsEmptyLine : List ℕ → Type 0
IsEmptyLine text = text ≡ 13 ∷ 10 ∷ []
