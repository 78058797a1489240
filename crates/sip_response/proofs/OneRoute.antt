-- A route is the one that the parameters lead to.
use Rattle.std.proofs.Common.{◌≡◌, ℕ, true, false, Option, Some, None, refl, sym, ap, ◌∙◌}
use Rattle.std.proofs.lemmas.Option.{same_Some}
use Rattle.ip_text.specs.declared.address.Address.{Address}
use Rattle.ip_text.specs.declared.address.Address.TheVariants.{V4, V6}
use Rattle.sip_response.specs.Multicast.{multicast_ttl}
use Rattle.sip_response.specs.Routes.{is_reliable, sent_port, rport_port, endpoint, steps, OverConnection, again, straight, ByDatagram, maddr, maddr_name, rport, received, sent_by, IsRoute, connection, datagram}
use Rattle.sip_response.specs.Sources.{address_of, rport_of, IsReceived, other, asked, same}
use Rattle.sip_response.specs.declared.endpoint.Endpoint.{Endpoint}
use Rattle.sip_response.specs.declared.route.ResponseRoute.{ResponseRoute}
use Rattle.sip_response.specs.declared.route.Step.TheVariants.{Connection, Opened, Maddr, MaddrName, Received, SentBy}
use Rattle.sip_uri.specs.declared.host_part.HostPart.{HostPart}
use Rattle.sip_uri.specs.declared.host_part.HostPart.TheVariants as part
use Rattle.sip_uri.specs.declared.route_params.RouteParams.{RouteParams}
use Rattle.sip_uri.specs.declared.route_params.Rport.TheVariants.{Absent, Empty}
use Rattle.sip_uri.specs.declared.transport.Transport.{Transport}

-- ---- over a connection

abbrev connected : Option Address → ℕ → ResponseRoute
connected None port = steps Connection (Some SentBy) None
connected (Some address) port = steps Connection (Some (Opened (endpoint address port))) (Some SentBy)

connection_is : (found : Option Address) (port : ℕ) (route : ResponseRoute) → OverConnection found port route → route ≡ connected found port
connection_is found port route (again address e) = rw e refl
connection_is found port route (straight e) = rw e refl

-- ---- by a datagram

abbrev hosted : HostPart → Option ℕ → ℕ → ResponseRoute
hosted (part.V4 host) ttl port = steps (Maddr (endpoint (V4 host.octets) port) (multicast_ttl (V4 host.octets) ttl)) None None
hosted (part.V6 host) ttl port = steps (Maddr (endpoint (V6 host.octets) port) (multicast_ttl (V6 host.octets) ttl)) None None
hosted (part.Domain name) ttl port = steps (MaddrName name port) None None

abbrev sourced : Option Address → Option ℕ → ℕ → ResponseRoute
sourced None it port = steps SentBy None None
sourced (Some address) None port = steps (Received (endpoint address port) false) (Some SentBy) None
sourced (Some address) (Some source) port = steps (Received (endpoint address source) true) (Some SentBy) None

abbrev sent : Option HostPart → Option Address → Option ℕ → Option ℕ → ℕ → ResponseRoute
sent (Some host) found it ttl port = hosted host ttl port
sent None found it ttl port = sourced found it port

host_is : (host : HostPart) (address : Address) (ttl : Option ℕ) (port : ℕ) → address_of host ≡ Some address
    → steps (Maddr (endpoint address port) (multicast_ttl address ttl)) None None ≡ hosted host ttl port
host_is (part.V4 host) address ttl port e = rw (← same_Some (V4 host.octets) address e) refl
host_is (part.V6 host) address ttl port e = rw (← same_Some (V6 host.octets) address e) refl
host_is (part.Domain name) address ttl port e = absurd cc

datagram_is : (params : RouteParams) (port : ℕ) (route : ResponseRoute) → ByDatagram params port route
    → route ≡ sent params.maddr params.received (rport_port params.rport) params.ttl port
datagram_is params port route (maddr host address e f) = rw e (host_is host address params.ttl port f)
datagram_is params port route (maddr_name name e) = rw e refl
datagram_is params port route (rport address source e f g) = rw (e, f, g) refl
datagram_is params port route (received address e f g) = rw (e, f, g) refl
datagram_is params port route (sent_by e f) = rw (e, f) refl

-- ---- the laws

apart : (over : Transport) → is_reliable over ≡ true → is_reliable over ≡ false → ⊥
apart over e f = (let no : true ≡ false = sym e ∙ f in absurd cc)

pub one_route : (over : Transport) (written : Option ℕ) (params : RouteParams) (route second : ResponseRoute)
    → IsRoute over written params route → IsRoute over written params second → route ≡ second
one_route over written params route second (connection e is) (connection f is') =
    connection_is params.received (sent_port over written) route is
    ∙ sym (connection_is params.received (sent_port over written) second is')
one_route over written params route second (connection e is) (datagram f is') = absurd (apart over e f)
one_route over written params route second (datagram e is) (connection f is') = absurd (apart over f e)
one_route over written params route second (datagram e is) (datagram f is') =
    datagram_is params (sent_port over written) route is ∙ sym (datagram_is params (sent_port over written) second is')

module _ (over : Transport) (written : Option ℕ) (params : RouteParams) (route : ResponseRoute)
    (unreliable : is_reliable over ≡ false) where
  by_datagram : IsRoute over written params route
      → route ≡ sent params.maddr params.received (rport_port params.rport) params.ttl (sent_port over written)
  by_datagram (connection e is) = absurd (apart over e unreliable)
  by_datagram (datagram e is) = datagram_is params (sent_port over written) route is

  none_received : (host : HostPart) (source : Address) (found : Option Address) → address_of host ≡ Some source
      → IsReceived host Absent source found → found ≡ None
  none_received host source found e (other apart') = absurd (apart' e)
  none_received host source found e (asked empty) = absurd cc
  none_received host source found e (same f valued) = refl

  pub own_address : (host : HostPart) (source : Endpoint) → address_of host ≡ Some source.address
      → IsReceived host Absent source.address params.received → params.maddr ≡ None → IsRoute over written params route
      → route ≡ steps SentBy None None
  own_address host source e is none route_is =
      let found = none_received host source.address params.received e is in
      by_datagram route_is ∙ rw (none, found) refl

  source_received : (host : HostPart) (source : Address) (found : Option Address) → IsReceived host Empty source found → found ≡ Some source
  source_received host source found (other apart') = refl
  source_received host source found (asked empty) = refl
  source_received host source found (same f valued) = absurd (valued refl)

  pub to_source : (host : HostPart) (source : Endpoint) → IsReceived host Empty source.address params.received
      → params.rport ≡ rport_of Empty source.port → params.maddr ≡ None → IsRoute over written params route
      → route.first ≡ Received source true
  to_source host source is port none route_is =
      let found = source_received host source.address params.received is in
      ap (λ (r : ResponseRoute). r.first) (by_datagram route_is) ∙ rw (none, found, port) refl
