-- What a server writes into the top Via of a request that comes in (RFC 3261 18.2.1, RFC 3581 4).
use Rattle.std.specs.Prelude.{◌≡◌, ℕ, Option, Some, None}
use Rattle.ip_text.specs.declared.address.Address.{Address}
use Rattle.ip_text.specs.declared.address.Address.TheVariants.{V4, V6}
use Rattle.sip_uri.specs.declared.host_part.HostPart.{HostPart}
use Rattle.sip_uri.specs.declared.host_part.HostPart.TheVariants as part
use Rattle.sip_uri.specs.declared.route_params.Rport.{Rport}
use Rattle.sip_uri.specs.declared.route_params.Rport.TheVariants.{Absent, Empty, Port}

-- the address that a host is, where it is one
abbrev pub address_of : HostPart → Option Address
address_of (part.V4 host) = Some (V4 host.octets)
address_of (part.V6 host) = Some (V6 host.octets)
address_of (part.Domain name) = None

-- What `received` says of a request that came from an address: that address, where the host of the
-- Via is a name or another address (RFC 3261 18.2.1), and where `rport` has no value, even if the
-- host is that address (RFC 3581 4). Else it is left out.
pub data IsReceived (host : HostPart) (rport : Rport) (source : Address)
    : Option Address → Type 0 where
  other : (address_of host ≡ Some source → ⊥) → IsReceived host rport source (Some source)
  asked : rport ≡ Empty → IsReceived host rport source (Some source)
  same : address_of host ≡ Some source → (rport ≡ Empty → ⊥) → IsReceived host rport source None

-- what `rport` says of a request that came from a port: that port, where it had no value (RFC 3581
-- 4); else it stays as it was
abbrev pub rport_of : Rport → ℕ → Rport
rport_of Absent source = Absent
rport_of Empty source = Port source
rport_of (Port port) source = Port port
