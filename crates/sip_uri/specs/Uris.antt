-- SIP and SIPS URIs as texts (RFC 3261 19.1.1, 25.1).
use Rattle.std.specs.Prelude.{◌≡◌, ℕ, ◌<◌, ◌≤◌, Bool, true, false, IsTrue, List, [], ◌∷◌, ◌++◌, length, map, Option, Some, None, IfSome, IsSome, IsSomeAnd, if◌then◌else◌, ◌⊎◌}
use Rattle.std.specs.List.{AllByRecursion, AllPairs, list_all, flat_map, join_with_byte}
use Rattle.std.specs.Option.{option_map}
use Rattle.std.specs.Char.{is_ascii_digit}
use Rattle.std.specs.Str.{bytes_eq}
use Rattle.dns_name.specs.Labels.{small_letters}
use Rattle.ip_text.specs.Numbers.{decimal}
use Rattle.sip_uri.specs.Classes.{IsRun, is_user_octet, is_password_octet, is_param_octet, is_header_octet}
use Rattle.sip_uri.specs.Hosts.{HostText, IsNamed}
use Rattle.sip_uri.specs.Transports.{spoken_of}
use Rattle.sip_uri.specs.declared.host.Host.{Host}
use Rattle.sip_uri.specs.declared.uri.SipUri.{SipUri}

-- a text is a run of at least one octet
pub record IsSomeRun (class : ℕ → Bool) (text : List ℕ) : Type 0 where
  pub some : 0 < length text
  pub run : IsRun class text

-- a text is `sip` or `sips`, in letters of any case, and whether it is `sips`
abbrev pub SchemeText : List ℕ → Bool → Type 0
SchemeText text false = small_letters text ≡ 115 ∷ 105 ∷ 112 ∷ []
SchemeText text true = small_letters text ≡ 115 ∷ 105 ∷ 112 ∷ 115 ∷ []

-- a scheme and `:` are in front of a text
pub record HasScheme (text : List ℕ) : Type 0 where
  pub scheme : List ℕ
  pub rest : List ℕ
  pub secure : Bool
  pub joined : text ≡ scheme ++ 58 ∷ rest
  pub is_scheme : SchemeText scheme secure

-- a text is nothing, or a user, optionally with `:` and a password, and `@` after them
pub data UserText (text : List ℕ) : Type 0 where
  nobody : text ≡ [] → UserText text
  alone : (user : List ℕ) → IsSomeRun is_user_octet user → text ≡ user ++ 64 ∷ [] → UserText text
  with_password : (user password : List ℕ) → IsSomeRun is_user_octet user
      → IsRun is_password_octet password
      → text ≡ user ++ 58 ∷ (password ++ 64 ∷ []) → UserText text

-- a text is decimal digits, leading zeros among them, that spell a number from 1 to 65535
pub record PortNumber (text : List ℕ) (port : ℕ) : Type 0 where
  pub some : 0 < length text
  pub digits : IsTrue (list_all is_ascii_digit text)
  pub is : port ≡ decimal text
  pub from : 0 < port
  pub upto : port ≤ 65535

-- a text is nothing, or `:` and a port
abbrev pub PortText : List ℕ → Option ℕ → Type 0
PortText text None = text ≡ []
PortText text (Some port) = (digits : List ℕ) × (text ≡ 58 ∷ digits) × PortNumber digits port

-- a parameter: its name, and its value, where it has one
pub record Param : Type 0 where
  pub name : List ℕ
  pub value : Option (List ℕ)

-- the text of a parameter: its name, and `=` and its value where it has one
abbrev pub valued_text : List ℕ → Option (List ℕ) → List ℕ
valued_text name None = name
valued_text name (Some value) = name ++ 61 ∷ value

-- the text of a parameter
abbrev pub param_text : Param → List ℕ
param_text param = valued_text param.name param.value

-- the key of a parameter, which no two parameters share: its name in small letters, with its
-- escapes as they are written
abbrev pub key_of : Param → List ℕ
key_of param = small_letters param.name

-- the key of the parameter `transport` (RFC 3261 19.1.1)
abbrev pub transport_key : List ℕ
transport_key = 116 ∷ 114 ∷ 97 ∷ 110 ∷ 115 ∷ 112 ∷ 111 ∷ 114 ∷ 116 ∷ []

-- the key of the parameter `maddr` (RFC 3261 19.1.1)
abbrev pub maddr_key : List ℕ
maddr_key = 109 ∷ 97 ∷ 100 ∷ 100 ∷ 114 ∷ []

-- a parameter is well formed: name and value are runs of the octets of parameters, and `transport`
-- and `maddr` have a value (RFC 3261 25.1)
pub record IsParam (param : Param) : Type 0 where
  pub name : IsSomeRun is_param_octet param.name
  pub value : IfSome param.value (λ value. IsSomeRun is_param_octet value)
  pub transport : key_of param ≡ transport_key → IsSome param.value
  pub maddr : key_of param ≡ maddr_key → IsSome param.value

-- the value of the first parameter of a key, if it has one; names are compared in small letters
-- (RFC 3261 19.1.4)
abbrev pub value_at : List ℕ → List Param → Option (List ℕ)
value_at key [] = None
value_at key (param ∷ params) =
    if bytes_eq (key_of param) key then param.value else value_at key params

-- a value and the host that it spells, or neither
abbrev pub HostValue : Option (List ℕ) → Option Host → Type 0
HostValue None None = Unit {0}
HostValue None (Some host) = ⊥
HostValue (Some text) None = ⊥
HostValue (Some text) (Some host) = HostText text host

-- the text of parameters: `;` and a parameter, as often as there are parameters
abbrev pub params_text : List Param → List ℕ
params_text params = flat_map (λ (param : Param). 59 ∷ param_text param) params

-- a text is a header: a name, `=`, and a value, which may be empty
pub record HeaderText (text : List ℕ) : Type 0 where
  pub name : List ℕ
  pub value : List ℕ
  pub joined : text ≡ name ++ 61 ∷ value
  pub is_name : IsSomeRun is_header_octet name
  pub is_value : IsRun is_header_octet value

-- the text of headers: nothing, or `?` and headers with `&` between them
abbrev pub headers_text : List (List ℕ) → List ℕ
headers_text [] = []
headers_text (header ∷ headers) = 63 ∷ join_with_byte 38 (header ∷ headers)

-- the host of the URI is a name, or that of its `maddr` is
abbrev pub IsNamedUri : SipUri → Type 0
IsNamedUri uri = IsNamed uri.host ⊎ IsSomeAnd uri.maddr IsNamed

-- The text spells the URI: it is the scheme, `:`, the user, the host, the port, the parameters and
-- the headers, one after the other, each of its kind, and has at most 1,024 octets.
pub record UriText (text : List ℕ) (uri : SipUri) : Type 0 where
  pub scheme : List ℕ
  pub user : List ℕ
  pub host : List ℕ
  pub port : List ℕ
  pub params : List Param
  pub headers : List (List ℕ)
  pub joined : text
      ≡ scheme ++ 58 ∷ (user ++ (host ++ (port ++ (params_text params ++ headers_text headers))))
  pub short : length text ≤ 1024
  pub is_scheme : SchemeText scheme uri.secure
  pub is_user : UserText user
  pub is_host : HostText host uri.host
  pub is_port : PortText port uri.port
  pub are_params : AllByRecursion IsParam params
  pub apart : AllPairs (λ a b. a ≡ b → ⊥) (map key_of params)
  pub transport : uri.transport ≡ option_map spoken_of (value_at transport_key params)
  pub maddr : HostValue (value_at maddr_key params) uri.maddr
  pub are_headers : AllByRecursion HeaderText headers
