-- What a text asks for goes to one destination.
use Rattle.std.proofs.Common.{◌≡◌, ℕ, true, false, List, Option, Some, None, refl, sym, ap, subst, ◌∙◌}
use Rattle.std.proofs.lemmas.Option.{same_Some}
use Rattle.std.specs.Option.{option_map}
use Rattle.ip_text.specs.declared.address.Address.{Address}
use Rattle.ip_text.specs.declared.address.Address.TheVariants.{V4, V6}
use Rattle.sip_uri.specs.ViaRoutes.{SameRoute, ViaRouteText}
use Rattle.sip_uri.specs.Uris.{UriText}
use Rattle.sip_uri.specs.Vias.{ViaText}
use Rattle.sip_uri.specs.Views.{host_of}
use Rattle.sip_uri.specs.declared.host.Host.{Host}
use Rattle.sip_uri.specs.declared.host.Host.TheVariants as host
use Rattle.sip_uri.specs.declared.host_part.HostPart.{HostPart}
use Rattle.sip_uri.specs.declared.host_part.HostPart.TheVariants as part
use Rattle.sip_uri.specs.declared.route_params.RouteParams.{RouteParams}
use Rattle.sip_uri.specs.declared.transport.Transport.{Transport}
use Rattle.sip_uri.specs.declared.uri.SipUri.{SipUri}
use Rattle.sip_uri.specs.declared.via.Via.{Via as ViaValue}
use Rattle.sip_response.specs.Routes.{is_reliable, sent_port, rport_port, endpoint, past_connection, OverConnection, again, straight, ByDatagram, maddr, maddr_name, rport, received, sent_by, IsRoute, connection, datagram}
use Rattle.sip_response.specs.Sources.{address_of}
use Rattle.sip_response.specs.declared.route.ResponseRoute.{ResponseRoute}
use Rattle.sip_response.specs.declared.route.Step.{Step}
use Rattle.sip_selection.specs.RequestLines.{RequestText}
use Rattle.sip_selection.specs.declared.request.Request.{Request}
use Rattle.sip_selection.specs.declared.request.Request.TheVariants.{Uri, Via}
use Rattle.sipwhere.proofs.Colons.{not-both, one-rest}
use Rattle.sipwhere.specs.Destinations.{IsDestination, IsOfRequest, IsOfVia, IsStep, by_way, target_at, transport_for}
use Rattle.sipwhere.specs.declared.destination.Destination.{Destination}
use Rattle.sipwhere.specs.declared.destination.Destination.TheVariants.{Located}
use Rattle.sipwhere.specs.declared.locate_settings.LocateSettings.{LocateSettings}

-- of the parameters of one text there is one value
abbrev pub OneRoute : Type 0
OneRoute = (text : List ℕ) (via via' : ViaValue) (route route' : RouteParams) → ViaRouteText text via route
    → ViaRouteText text via' route' → SameRoute route route'

-- a text is one URI
abbrev pub OneUri : Type 0
OneUri = (text : List ℕ) (uri uri' : SipUri) → UriText text uri → UriText text uri' → uri ≡ uri'

-- a text is one Via
abbrev pub OneVia : Type 0
OneVia = (text : List ℕ) (via via' : ViaValue) → ViaText text via → ViaText text via' → via ≡ via'

module _ (via : ViaValue) (over : Transport) where
  -- ---- over a connection

  abbrev connected : Option Address → ℕ → Destination
  connected None port = Located (Via via)
  connected (Some address) port = target_at over via.host (endpoint address port)

  connection-is : (found : Option Address) (port : ℕ) (route : ResponseRoute) → OverConnection found port route
      → by_way via over (past_connection route) ≡ connected found port
  connection-is found port route (again address e) = rw e refl
  connection-is found port route (straight e) = rw e refl

  -- ---- by a datagram

  abbrev hosted : Host → ℕ → Destination
  hosted (host.V4 octets) port = target_at over via.host (endpoint (V4 octets) port)
  hosted (host.V6 octets) port = target_at over via.host (endpoint (V6 octets) port)
  hosted (host.Domain name) port =
      Located (Via (record { transport = via.transport; host = host.Domain name; port = Some port }))

  abbrev sourced : Option Address → Option ℕ → ℕ → Destination
  sourced None it port = Located (Via via)
  sourced (Some address) None port = target_at over via.host (endpoint address port)
  sourced (Some address) (Some source) port = target_at over via.host (endpoint address source)

  abbrev sent : Option Host → Option Address → Option ℕ → ℕ → Destination
  sent (Some it) found source port = hosted it port
  sent None found source port = sourced found source port

  host-is : (it : HostPart) (address : Address) (port : ℕ) → address_of it ≡ Some address
      → target_at over via.host (endpoint address port) ≡ hosted (host_of it) port
  host-is (part.V4 host) address port e = rw (← same_Some (V4 host.octets) address e) refl
  host-is (part.V6 host) address port e = rw (← same_Some (V6 host.octets) address e) refl
  host-is (part.Domain name) address port e = absurd cc

  datagram-is : (params : RouteParams) (port : ℕ) (route : ResponseRoute) → ByDatagram params port route
      → by_way via over (past_connection route) ≡ sent (option_map host_of params.maddr) params.received (rport_port params.rport) port
  datagram-is params port route (maddr it address e f) = rw e (host-is it address port f)
  datagram-is params port route (maddr_name name e) = rw e refl
  datagram-is params port route (rport address source e f g) = rw (e, f, g) refl
  datagram-is params port route (received address e f g) = rw (e, f, g) refl
  datagram-is params port route (sent_by e f) = rw (e, f) refl

  -- ---- by what a text says

  apart : is_reliable over ≡ true → is_reliable over ≡ false → ⊥
  apart e f = (let no : true ≡ false = sym e ∙ f in absurd cc)

  one-way : (written : Option ℕ) (params params' : RouteParams) (route route' : ResponseRoute) → SameRoute params params'
      → IsRoute over written params route → IsRoute over written params' route'
      → by_way via over (past_connection route) ≡ by_way via over (past_connection route')
  one-way written params params' route route' same (connection e is) (connection f is') =
      connection-is params.received (sent_port over written) route is
      ∙ ap (λ found. connected found (sent_port over written)) same.received
      ∙ sym (connection-is params'.received (sent_port over written) route' is')
  one-way written params params' route route' same (connection e is) (datagram f is') = absurd (apart e f)
  one-way written params params' route route' same (datagram e is) (connection f is') = absurd (apart f e)
  one-way written params params' route route' same (datagram e is) (datagram f is') =
      datagram-is params (sent_port over written) route is ∙ rw (same.maddr, same.received, same.rport) refl
      ∙ sym (datagram-is params' (sent_port over written) route' is')

  one-step : (text : List ℕ) (step other : Option Step) → OneRoute → IsStep text via over step → IsStep text via over other
      → by_way via over step ≡ by_way via over other
  one-step text step other law it also =
      let rest : also.rest ≡ it.rest = one-rest text also.rest it.rest also.begins it.begins in
      let says : ViaRouteText it.rest via also.params = subst (λ r. ViaRouteText r via also.params) rest also.says in
      let same = law it.rest via via it.params also.params it.says says in
      rw (it.first, also.first) (one-way via.port it.params also.params it.route also.route same it.is also.is)

-- ---- the destination of a text

module _ (law : OneRoute) (text : List ℕ) where
  one-of-via : (via : ViaValue) (over : Option Transport) (it other : Destination) → IsOfVia text via over it
      → IsOfVia text via over other → it ≡ other
  one-of-via via None it other is also = is ∙ sym also
  one-of-via via (Some over) it other is also = is.2 ∙ one-step via over text is.0 also.0 law is.1 also.1 ∙ sym also.2

  one-of-request : (settings : LocateSettings) (request : Request) (it other : Destination) → IsOfRequest settings text request it
      → IsOfRequest settings text request other → it ≡ other
  one-of-request settings (Uri uri) it other is also = is ∙ sym also
  one-of-request settings (Via via) it other is also = one-of-via via (transport_for settings via.transport) it other is also

  -- a text spells one request
  one-request : OneUri → OneVia → (request other : Request) → RequestText text request → RequestText text other → request ≡ other
  one-request uris vias (Uri uri) (Uri other) is also = ap Uri (uris text uri other is also)
  one-request uris vias (Uri uri) (Via other) is also = absurd (not-both text also.0 uri is also.1)
  one-request uris vias (Via via) (Uri other) is also = absurd (not-both text is.0 other also is.1)
  one-request uris vias (Via via) (Via other) is also =
      let rest : also.0 ≡ is.0 = one-rest text also.0 is.0 also.1 is.1 in
      let here : ViaText is.0 other = rw rest at also.2 in
      ap Via (vias is.0 via other is.2 here)

  -- what a text asks for goes to one destination
  pub one-destination : OneUri → OneVia → (settings : LocateSettings) (it other : Destination) → IsDestination settings text it
      → IsDestination settings text other → it ≡ other
  one-destination uris vias settings it other is also =
      let same : also.request ≡ is.request = one-request uris vias also.request is.request also.is is.is in
      one-of-request settings is.request it other is.of (subst (λ r. IsOfRequest settings text r other) same also.of)

-- where that is the targets of a request, it is this request
pub same-located : (request other : Request) → Located request ≡ Located other → request ≡ other
same-located request other same = cc
