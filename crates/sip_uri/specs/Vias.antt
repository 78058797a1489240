-- Vias as texts (RFC 3261 20.42, 25.1).
use Rattle.std.specs.Prelude.{◌≡◌, ℕ, ◌<◌, ◌≤◌, IsTrue, List, [], ◌∷◌, ◌++◌, length, Option, Some, None}
use Rattle.std.specs.List.{AllPairs, list_all}
use Rattle.dns_name.specs.Labels.{small_letters}
use Rattle.sip_uri.specs.Hosts.{HostText}
use Rattle.sip_uri.specs.Uris.{PortNumber}
use Rattle.sip_uri.specs.Transports.{spoken_of}
use Rattle.sip_uri.specs.ViaClasses.{is_blank, is_token_octet, is_value_octet}
use Rattle.sip_uri.specs.declared.via.Via.{Via}

-- a text is blanks and tabs, or nothing
abbrev pub IsBlanks : List ℕ → Type 0
IsBlanks text = IsTrue (list_all is_blank text)

-- a text is one or more octets of a token
pub record IsToken (text : List ℕ) : Type 0 where
  pub some : 0 < length text
  pub octets : IsTrue (list_all is_token_octet text)

-- the octets between two quotes: characters other than `"`, `\`, CR and LF, and `\` with another
-- octet of ASCII than CR and LF
pub data IsQuoted : List ℕ → Type 0 where
  done : IsQuoted []
  character : (octet : ℕ) (text : List ℕ) → (octet ≡ 34 → ⊥) → (octet ≡ 92 → ⊥) → (octet ≡ 13 → ⊥)
      → (octet ≡ 10 → ⊥) → IsQuoted text → IsQuoted (octet ∷ text)
  pair : (octet : ℕ) (text : List ℕ) → octet < 128 → (octet ≡ 13 → ⊥) → (octet ≡ 10 → ⊥)
      → IsQuoted text → IsQuoted (92 ∷ octet ∷ text)

-- a text is the value of a parameter: octets from 33 to 126 other than `;`, `,` and `"` (RFC 5118
-- 4.5), or a quoted string
pub data IsValue (text : List ℕ) : Type 0 where
  word : 0 < length text → IsTrue (list_all is_value_octet text) → IsValue text
  quoted : (inner : List ℕ) → IsQuoted inner → text ≡ 34 ∷ inner ++ 34 ∷ [] → IsValue text

-- a text is nothing, or `=` with blanks around it and a value
pub data ValueText (text : List ℕ) : Type 0 where
  without : text ≡ [] → ValueText text
  valued : (front behind value : List ℕ) → IsBlanks front → IsBlanks behind → IsValue value
      → text ≡ front ++ 61 ∷ (behind ++ value) → ValueText text

-- a text is parameters, each with `;` in front and blanks around that, their names in small
-- letters, and blanks after them
pub data ParamsText : List ℕ → List (List ℕ) → Type 0 where
  nothing : (text : List ℕ) → IsBlanks text → ParamsText text []
  param : (text : List ℕ) (keys : List (List ℕ)) (front behind name value rest : List ℕ)
      → IsBlanks front → IsBlanks behind → IsToken name → ValueText value → ParamsText rest keys
      → text ≡ front ++ 59 ∷ (behind ++ (name ++ (value ++ rest)))
      → ParamsText text (small_letters name ∷ keys)

-- a text is parameters no two of which have one name (RFC 3261 7.3.1)
pub record ViaParams (text : List ℕ) : Type 0 where
  pub keys : List (List ℕ)
  pub are : ParamsText text keys
  pub apart : AllPairs (λ a b. a ≡ b → ⊥) keys

-- a text is nothing, or `:` with blanks around it and a port
abbrev pub ViaPort : List ℕ → Option ℕ → Type 0
ViaPort text None = text ≡ []
ViaPort text (Some port) = (front : List ℕ) × (behind : List ℕ) × (digits : List ℕ) × IsBlanks front
    × IsBlanks behind × PortNumber digits port × (text ≡ front ++ 58 ∷ (behind ++ digits))

-- a text is `SIP / 2.0 / ` and a transport (RFC 3261 8.1.1.7), with optional blanks beside each of
-- them, and at least one after the transport
pub record ProtocolText (text transport : List ℕ) : Type 0 where
  pub first : List ℕ
  pub sip : List ℕ
  pub second : List ℕ
  pub third : List ℕ
  pub fourth : List ℕ
  pub fifth : List ℕ
  pub last : List ℕ
  pub joined : text
      ≡ first ++ (sip
      ++ (second ++ 47 ∷
      (third ++ ((50 ∷ 46 ∷ 48 ∷ []) ++ (fourth ++ 47 ∷ (fifth ++ (transport ++ last)))))))
  pub is_sip : small_letters sip ≡ 115 ∷ 105 ∷ 112 ∷ []
  pub is_transport : IsToken transport
  pub first_blank : IsBlanks first
  pub second_blank : IsBlanks second
  pub third_blank : IsBlanks third
  pub fourth_blank : IsBlanks fourth
  pub fifth_blank : IsBlanks fifth
  pub last_blank : IsBlanks last
  pub apart : 0 < length last

-- a text begins with a protocol and a transport (RFC 3261 8.1.1.7)
pub record HasProtocol (text : List ℕ) : Type 0 where
  pub protocol : List ℕ
  pub transport : List ℕ
  pub rest : List ℕ
  pub joined : text ≡ protocol ++ rest
  pub is_protocol : ProtocolText protocol transport

-- The text spells the Via: it is the protocol, the host, the port and the parameters, one after the
-- other, and has at most 1,024 octets.
pub record ViaText (text : List ℕ) (via : Via) : Type 0 where
  pub protocol : List ℕ
  pub transport : List ℕ
  pub host : List ℕ
  pub port : List ℕ
  pub params : List ℕ
  pub joined : text ≡ protocol ++ (host ++ (port ++ params))
  pub short : length text ≤ 1024
  pub is_protocol : ProtocolText protocol transport
  pub is_transport : via.transport ≡ spoken_of transport
  pub is_host : HostText host via.host
  pub is_port : ViaPort port via.port
  pub are_params : ViaParams params
