-- Where a response goes (RFC 3261 18.2.2, RFC 3581 4).
use Rattle.std.specs.Prelude.{◌≡◌, ℕ, Bool, true, false, Option, Some, None}
use Rattle.ip_text.specs.declared.address.Address.{Address}
use Rattle.sip_uri.specs.declared.host_part.HostPart.{HostPart}
use Rattle.sip_uri.specs.declared.route_params.RouteParams.{RouteParams}
use Rattle.sip_uri.specs.declared.route_params.Rport.{Rport}
use Rattle.sip_uri.specs.declared.route_params.Rport.TheVariants.{Absent, Empty, Port}
use Rattle.sip_uri.specs.declared.transport.Transport.{Transport}
use Rattle.sip_uri.specs.declared.transport.Transport.TheVariants.{Udp, Tcp, Sctp, Tls}
use Rattle.sip_response.specs.Multicast.{multicast_ttl}
use Rattle.sip_response.specs.Sources.{address_of}
use Rattle.sip_response.specs.declared.endpoint.Endpoint.{Endpoint}
use Rattle.sip_response.specs.declared.route.Step.{Step}
use Rattle.sip_response.specs.declared.route.Step.TheVariants.{Connection, Opened, Maddr, MaddrName, Received, SentBy}
use Rattle.sip_response.specs.declared.route.ResponseRoute.{ResponseRoute}
use Rattle.sip_uri.specs.declared.host_part.HostPart.TheVariants as part

-- a transport is reliable: each is but UDP
abbrev pub is_reliable : Transport → Bool
is_reliable Udp = false
is_reliable Tcp = true
is_reliable Sctp = true
is_reliable Tls = true

-- the default port of a transport (RFC 3261 19.1.2)
abbrev pub default_port : Transport → ℕ
default_port Udp = 5060
default_port Tcp = 5060
default_port Sctp = 5060
default_port Tls = 5061

-- the port that a Via writes behind its host, or the default of the transport
abbrev pub sent_port : Transport → Option ℕ → ℕ
sent_port over (Some port) = port
sent_port over None = default_port over

-- an address and a port
abbrev pub endpoint : Address → ℕ → Endpoint
endpoint address port = record { address = address; port = port }

-- the port that `rport` has
abbrev pub rport_port : Rport → Option ℕ
rport_port Absent = None
rport_port Empty = None
rport_port (Port port) = Some port

-- one way after the other
abbrev pub steps : Step → Option Step → Option Step → ResponseRoute
steps first second third = record { first = first; second = second; third = third }

-- Over a reliable transport: over the connection that the request came over; then over a new one to
-- the address in `received`, if it is there, and the port of the Via; then to where RFC 3263 5 says
-- that the Via's host is.
pub data OverConnection (received : Option Address) (port : ℕ) : ResponseRoute → Type 0 where
  again : (address : Address) → received ≡ Some address
      → OverConnection received port
      (steps Connection (Some (Opened (endpoint address port))) (Some SentBy))
  straight : received ≡ None
      → OverConnection received port (steps Connection (Some SentBy) None)

-- By a datagram: to `maddr`, if it is there, and the port of the Via, and nowhere else. Else, if
-- `received` is there, to its address: at the port in `rport`, from where the request came to (RFC
-- 3581 4), or at the port of the Via where `rport` has none. Where that fails, and where `received`
-- is not there, to where RFC 3263 5 says that the Via's host is.
pub data ByDatagram (params : RouteParams) (port : ℕ) : ResponseRoute → Type 0 where
  maddr : (host : HostPart) (address : Address) → params.maddr ≡ Some host
      → address_of host ≡ Some address
      → ByDatagram params port
      (steps (Maddr (endpoint address port) (multicast_ttl address params.ttl)) None None)
  maddr_name : (name : _) → params.maddr ≡ Some (part.Domain name)
      → ByDatagram params port (steps (MaddrName name port) None None)
  rport : (address : Address) (source : ℕ) → params.maddr ≡ None → params.received ≡ Some address
      → rport_port params.rport ≡ Some source
      → ByDatagram params port (steps (Received (endpoint address source) true) (Some SentBy) None)
  received : (address : Address) → params.maddr ≡ None → params.received ≡ Some address
      → rport_port params.rport ≡ None
      → ByDatagram params port (steps (Received (endpoint address port) false) (Some SentBy) None)
  sent_by : params.maddr ≡ None → params.received ≡ None
      → ByDatagram params port (steps SentBy None None)

-- Where the response to a request that came over a transport goes, by the port that its top Via
-- writes and by the parameters of that Via.
pub data IsRoute (over : Transport) (written : Option ℕ) (params : RouteParams)
    (route : ResponseRoute) : Type 0 where
  connection : is_reliable over ≡ true
      → OverConnection params.received (sent_port over written) route
      → IsRoute over written params route
  datagram : is_reliable over ≡ false → ByDatagram params (sent_port over written) route
      → IsRoute over written params route

-- a step, or the next one where that step is the connection that the request came over
abbrev pub but_connection : Step → Option Step → Option Step
but_connection Connection second = second
but_connection (Opened to) second = Some (Opened to)
but_connection (Maddr to ttl) second = Some (Maddr to ttl)
but_connection (MaddrName name port) second = Some (MaddrName name port)
but_connection (Received to symmetric) second = Some (Received to symmetric)
but_connection SentBy second = Some SentBy

-- what is tried first where the connection that the request came over is not used
abbrev pub past_connection : ResponseRoute → Option Step
past_connection route = but_connection route.first route.second
