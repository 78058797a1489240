-- What a request says of where it goes (RFC 3263 4, 5).
use Rattle.std.specs.Prelude.{⊤, ℕ, Bool, true, false, Option, Some, None, unwrap_or, Result, Ok, Err}
use Rattle.sip_uri.specs.Hosts as hosts
use Rattle.sip_uri.specs.Hosts.{DomainText}
use Rattle.sip_uri.specs.Uris.{IsNamedUri}
use Rattle.sip_uri.specs.Views.{IsHostView, IsUriView, name_of, uri_of, via_of}
use Rattle.sip_uri.specs.declared.host.Host.{Host}
use Rattle.sip_uri.specs.declared.host.Host.TheVariants as host
use Rattle.sip_uri.specs.declared.transport.Spoken.{Spoken}
use Rattle.sip_uri.specs.declared.transport.Spoken.TheVariants as spoken
use Rattle.sip_uri.specs.declared.transport.Transport.{Transport}
use Rattle.sip_uri.specs.declared.transport.Transport.TheVariants.{Udp, Tcp, Sctp, Tls}
use Rattle.sip_selection.specs.declared.reason.Reason.{Reason}
use Rattle.sip_selection.specs.declared.reason.Reason.TheVariants.{TransportUnsupported, TransportNotSecure}
use Rattle.sip_selection.specs.declared.request.Request.{Request}
use Rattle.sip_selection.specs.declared.request.Request.TheVariants.{Uri, Via}
use Rattle.sip_selection.specs.declared.request_view.RequestView.{RequestView}
use Rattle.sip_selection.specs.declared.request_view.RequestView.TheVariants as view
use Rattle.sip_selection.specs.declared.request_view.TargetView.{TargetView}
use Rattle.sip_selection.specs.declared.request_view.TargetView.TheVariants as part

-- ---- requests as they stand in their text

-- the request that a view means
abbrev pub request_of : RequestView → Request
request_of (view.Read request) = request.now
request_of (view.Uri parts) = Uri (uri_of parts)
request_of (view.Via parts) = Via (via_of parts)

-- a view is one of a request: its hosts are views of hosts
abbrev pub IsRequestView : RequestView → Type 0
IsRequestView (view.Read request) = ⊤
IsRequestView (view.Uri parts) = IsUriView parts
IsRequestView (view.Via parts) = IsHostView parts.host

-- the host whose addresses are needed
abbrev pub host_in : TargetView → Host
host_in (part.V4 address) = host.V4 address.octets
host_in (part.V6 address) = host.V6 address.octets
host_in (part.Name name) = host.Domain name.now
host_in (part.Hostname text) = host.Domain (name_of text.now)

-- where it is a text, that is a hostname
abbrev pub IsTargetView : TargetView → Type 0
IsTargetView (part.V4 address) = ⊤
IsTargetView (part.V6 address) = ⊤
IsTargetView (part.Name name) = ⊤
IsTargetView (part.Hostname text) = DomainText text.now (name_of text.now)

-- ---- what a request says

-- a request has a host that is a name
abbrev pub IsNamed : Request → Type 0
IsNamed (Uri uri) = IsNamedUri uri
IsNamed (Via via) = hosts.IsNamed via.host

-- TARGET: of a URI the parameter maddr where there is one, else the host; of a Via the host
abbrev pub target_of : Request → Host
target_of (Uri uri) = unwrap_or uri.maddr uri.host
target_of (Via via) = via.host

-- the port that a request writes, if it writes one
abbrev pub port_of : Request → Option ℕ
port_of (Uri uri) = uri.port
port_of (Via via) = via.port

-- the transport that a request names, if it names one
abbrev pub spoken_of : Request → Option Spoken
spoken_of (Uri uri) = uri.transport
spoken_of (Via via) = Some via.transport

-- a request is a SIPS URI (RFC 3263 4.1)
abbrev pub is_secure : Request → Bool
is_secure (Uri uri) = uri.secure
is_secure (Via via) = false

-- ---- the transport (RFC 3263 4.1, 5)

-- what a SIP URI or a Via means by the transport that it names: that one, where it is known
abbrev pub transport_for_sip : Spoken → Result Transport Reason
transport_for_sip (spoken.Known transport) = Ok transport
transport_for_sip spoken.Other = Err TransportUnsupported

-- what a SIPS URI means by the transport that it names: TLS over TCP, by `tcp` and by `tls` (RFC
-- 3261 19.1.1, 26.2.2); UDP is not secure, and others are not supported
abbrev pub transport_for_sips : Spoken → Result Transport Reason
transport_for_sips (spoken.Known Udp) = Err TransportNotSecure
transport_for_sips (spoken.Known Tcp) = Ok Tls
transport_for_sips (spoken.Known Sctp) = Err TransportUnsupported
transport_for_sips (spoken.Known Tls) = Ok Tls
transport_for_sips spoken.Other = Err TransportUnsupported

-- the transport where none is named: TLS for a SIPS URI, else UDP (RFC 3263 4.1)
abbrev pub default_transport : Bool → Transport
default_transport true = Tls
default_transport false = Udp

-- the transport that is meant, by whether the URI is a SIPS URI and by the transport that it names
abbrev pub meant_by : Bool → Option Spoken → Result Transport Reason
meant_by secure None = Ok (default_transport secure)
meant_by true (Some named) = transport_for_sips named
meant_by false (Some named) = transport_for_sip named

-- the transport that a request means, or why there is none (RFC 3263 4.1, 5, RFC 3261 26.2.2)
abbrev pub transport_of : Request → Result Transport Reason
transport_of request = meant_by (is_secure request) (spoken_of request)

-- the port of a transport where none is written (RFC 3261 18.1.1 and Table 1)
abbrev pub default_port : Transport → ℕ
default_port Tls = 5061
default_port Udp = 5060
default_port Tcp = 5060
default_port Sctp = 5060
