-- What the readers of the values of a Via's parameters give, as functions on lists.
use Rattle.std.specs.Prelude.{◌≡◌, ℕ, ◌-◌, List, [], ◌∷◌, length, take, Option, Some, None}
use Rattle.std.specs.Option.{option_map}
use Rattle.ip_text.specs.Readers.{◌>>=◌, ipv6}
use Rattle.ip_text.specs.declared.address.Address.{Address}
use Rattle.ip_text.specs.declared.address.Address.TheVariants.{V4, V6}
use Rattle.sip_uri.specs.Readers.Hosts.{host}
use Rattle.sip_uri.specs.Readers.Uris.{port_number}
use Rattle.sip_uri.specs.Readers.Vias.{behind_mark, behind_value}
use Rattle.sip_uri.specs.Vias.{ViaText}
use Rattle.sip_uri.specs.ViaClasses.{is_token_octet, row, behind_row}
use Rattle.sip_uri.specs.declared.host.Host.{Host}
use Rattle.sip_uri.specs.declared.host.Host.TheVariants as host_as
use Rattle.sip_uri.specs.declared.route_params.Rport.{Rport}
use Rattle.sip_uri.specs.declared.route_params.Rport.TheVariants.{Absent, Empty, Port}
use Rattle.sip_uri.specs.declared.via.Via.{Via}
use Rattle.sip_uri.specs.declared.via_values.ParamFront.{ParamFront}

-- a parameter in front, and what follows it
pub record Front : Type 0 where
  pub name : List ℕ
  pub value : Option (List ℕ)
  pub behind : List ℕ

-- a parameter as it stands in a text
abbrev pub front_of : ParamFront → Front
front_of param = record {
  name = param.name.now;
  value = option_map (λ (value : _). value.now) param.value;
  behind = param.behind.now;
}

-- a value, and what follows it
abbrev pub value_before : List ℕ → List ℕ → List ℕ × List ℕ
value_before text rest = (take (length text - length rest) text, rest)

unfoldable pub value_in_front : List ℕ → Option (List ℕ × List ℕ)
value_in_front text = option_map (value_before text) (behind_value text)

abbrev pub valued : List ℕ → Option (List ℕ) → Option (Option (List ℕ) × List ℕ)
valued text None = Some (None, text)
valued text (Some inner) =
    option_map (λ (found : List ℕ × List ℕ). (Some found.0, found.1)) (value_in_front inner)

-- the value behind a name, where it has one, and what follows it
unfoldable pub value_behind_name : List ℕ → Option (Option (List ℕ) × List ℕ)
value_behind_name text = valued text (behind_mark 61 text)

abbrev pub front_with : List ℕ → Option (List ℕ) × List ℕ → Front
front_with name found = record { name = name; value = found.0; behind = found.1 }

abbrev pub named : List ℕ → List ℕ → Option Front
named [] rest = None
named (x ∷ name) rest = option_map (front_with (x ∷ name)) (value_behind_name rest)

unfoldable pub param_in_front : List ℕ → Option Front
param_in_front text =
    behind_mark 59 text >>= λ (rest : List ℕ). named (row is_token_octet rest)
    (behind_row is_token_octet rest)

-- the address of a host
abbrev pub address_of : Host → Option Address
address_of (host_as.V4 octets) = Some (V4 octets)
address_of (host_as.V6 octets) = Some (V6 octets)
address_of (host_as.Domain name) = None

abbrev pub received_from : List ℕ → Option Host → Option Address
received_from text None = option_map (λ (octets : List ℕ). V6 octets) (ipv6 text)
received_from text (Some h) = address_of h

unfoldable pub received : List ℕ → Option Address
received text = received_from text (host text)

abbrev pub rport_from : Option ℕ → Rport
rport_from None = Absent
rport_from (Some port) = Port port

abbrev pub rport : Option (Option (List ℕ)) → Rport
rport None = Absent
rport (Some None) = Empty
rport (Some (Some text)) = rport_from (port_number text)

-- what a parameter says, by the reader of its value
abbrev pub said : {A : Type 0} → (List ℕ → Option A) → Option (Option (List ℕ)) → Option A
said read None = None
said read (Some None) = None
said read (Some (Some text)) = read text

-- the text spells the Via, with this text of its parameters
pub record ParamsOf (text : List ℕ) (via : Via) (params : List ℕ) : Type 0 where
  pub is : ViaText text via
  pub are : is.params ≡ params
