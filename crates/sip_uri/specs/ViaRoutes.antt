-- What the parameters of a Via say of where a response goes (RFC 3261 18.2, 20.42, RFC 3581 3).
use Rattle.std.specs.Prelude.{◌≡◌, ℕ, List, [], ◌∷◌, ◌++◌, Option, Some, None, if◌then◌else◌, ◌⊎◌}
use Rattle.std.specs.Option.{option_map}
use Rattle.std.specs.Str.{str_eq_ignore_ascii_case}
use Rattle.ip_text.specs.Addresses.{V4Text, V6Text, NumberText}
use Rattle.ip_text.specs.declared.address.Address.{Address}
use Rattle.ip_text.specs.declared.address.Address.TheVariants.{V4, V6}
use Rattle.sip_uri.specs.Hosts.{HostText}
use Rattle.sip_uri.specs.Uris.{Param, PortNumber, maddr_key}
use Rattle.sip_uri.specs.Vias.{IsBlanks, IsToken, IsValue, ViaText}
use Rattle.sip_uri.specs.Views.{host_of}
use Rattle.sip_uri.specs.declared.host.Host.TheVariants as host
use Rattle.sip_uri.specs.declared.route_params.Rport.{Rport}
use Rattle.sip_uri.specs.declared.route_params.Rport.TheVariants.{Absent, Empty, Port}
use Rattle.sip_uri.specs.declared.route_params.RouteParams.{RouteParams}
use Rattle.sip_uri.specs.declared.via.Via.{Via}

-- a text is nothing, or `=` with blanks around it and a value; and that value
abbrev pub ValueOf : List ℕ → Option (List ℕ) → Type 0
ValueOf text None = text ≡ []
ValueOf text (Some value) = (front : List ℕ) × (behind : List ℕ) × IsBlanks front × IsBlanks behind
    × IsValue value × (text ≡ front ++ 61 ∷ (behind ++ value))

-- a text is these parameters, each with `;` in front and blanks around that, and blanks after them
pub data ListText : List ℕ → List Param → Type 0 where
  nothing : (text : List ℕ) → IsBlanks text → ListText text []
  another : (text : List ℕ) (params : List Param) (front behind name written rest : List ℕ)
      (value : Option (List ℕ))
      → IsBlanks front → IsBlanks behind → IsToken name → ValueOf written value
      → ListText rest params
      → text ≡ front ++ 59 ∷ (behind ++ (name ++ (written ++ rest)))
      → ListText text (record { name = name; value = value } ∷ params)

-- The value of the parameter of a name, in letters of any case, where there is such a parameter. A
-- parameter without a value has none.
abbrev pub found_at : List ℕ → List Param → Option (Option (List ℕ))
found_at name [] = None
found_at name (param ∷ params) =
    if str_eq_ignore_ascii_case param.name name then Some param.value else found_at name params

-- the name `received` (RFC 3261 20.42)
abbrev pub received_name : List ℕ
received_name = 114 ∷ 101 ∷ 99 ∷ 101 ∷ 105 ∷ 118 ∷ 101 ∷ 100 ∷ []

-- the name `rport` (RFC 3581 3)
abbrev pub rport_name : List ℕ
rport_name = 114 ∷ 112 ∷ 111 ∷ 114 ∷ 116 ∷ []

-- the name `ttl` (RFC 3261 20.42)
abbrev pub ttl_name : List ℕ
ttl_name = 116 ∷ 116 ∷ 108 ∷ []

-- a parameter says what its value spells; it says nothing where its value spells nothing of that
-- kind, where it has no value, and where there is no such parameter
abbrev pub Says : {A : Type 0} → (List ℕ → A → Type 0) → Option (Option (List ℕ)) → Option A
    → Type 0
Says Spells None said = said ≡ None
Says Spells (Some None) said = said ≡ None
Says Spells (Some (Some text)) (Some it) = Spells text it
Says {A} Spells (Some (Some text)) None = (it : A) → Spells text it → ⊥

-- a text is an address as `received` has it: one of IPv4, or one of IPv6, with or without brackets
-- around it (RFC 3261 25.1, RFC 5118 4.5)
abbrev pub ReceivedText : List ℕ → Address → Type 0
ReceivedText text (V4 octets) = V4Text text octets
ReceivedText text (V6 octets) = V6Text text octets ⊎ HostText text (host.V6 octets)

-- what `rport` says: it is not there, or has a value that is no port; it is there without a value;
-- or its value is this port (RFC 3581 3)
abbrev pub RportSays : Option (Option (List ℕ)) → Rport → Type 0
RportSays None said = said ≡ Absent
RportSays (Some None) said = said ≡ Empty
RportSays (Some (Some text)) Absent = (port : ℕ) → PortNumber text port → ⊥
RportSays (Some (Some text)) Empty = ⊥
RportSays (Some (Some text)) (Port port) = PortNumber text port

-- what parameters say of where a response goes
pub record RouteSays (params : List Param) (route : RouteParams) : Type 0 where
  pub received : Says ReceivedText (found_at received_name params) route.received
  pub rport : RportSays (found_at rport_name params) route.rport
  pub maddr : Says HostText (found_at maddr_key params) (option_map host_of route.maddr)
  pub ttl : Says NumberText (found_at ttl_name params) route.ttl

-- The text spells the Via, and its parameters say this of where a response goes.
pub record ViaRouteText (text : List ℕ) (via : Via) (route : RouteParams) : Type 0 where
  pub is_via : ViaText text via
  pub params : List Param
  pub are : ListText is_via.params params
  pub says : RouteSays params route

-- the parameters of two Vias say the same of where a response goes
pub record SameRoute (route other : RouteParams) : Type 0 where
  pub received : route.received ≡ other.received
  pub rport : route.rport ≡ other.rport
  pub maddr : option_map host_of route.maddr ≡ option_map host_of other.maddr
  pub ttl : route.ttl ≡ other.ttl
