-- Where what a text asks for goes: a request by its URI, and a response by its Via (RFC 3261
-- 18.2.2, RFC 3581 4, RFC 3263 5).
use Rattle.std.specs.Prelude.{◌≡◌, ℕ, List, Option, Some, None, ⊤, if◌then◌else◌}
use Rattle.sip_uri.specs.Hosts.{DomainText}
use Rattle.sip_uri.specs.ViaRoutes.{ViaRouteText}
use Rattle.sip_uri.specs.Views.{name_of}
use Rattle.sip_uri.specs.declared.host.Host.{Host}
use Rattle.sip_uri.specs.declared.host.Host.TheVariants as host
use Rattle.sip_uri.specs.declared.route_params.RouteParams.{RouteParams}
use Rattle.sip_uri.specs.declared.transport.Spoken.{Spoken}
use Rattle.sip_uri.specs.declared.transport.Spoken.TheVariants as spoken
use Rattle.sip_uri.specs.declared.transport.Transport.{Transport}
use Rattle.sip_uri.specs.declared.via.Via.{Via as ViaValue}
use Rattle.sip_response.specs.Routes.{IsRoute, past_connection}
use Rattle.sip_response.specs.declared.endpoint.Endpoint.{Endpoint}
use Rattle.sip_response.specs.declared.route.ResponseRoute.{ResponseRoute}
use Rattle.sip_response.specs.declared.route.Step.{Step}
use Rattle.sip_response.specs.declared.route.Step.TheVariants.{Connection, Opened, Maddr, MaddrName, Received, SentBy}
use Rattle.sip_selection.specs.Callers.{CapsValue, offers}
use Rattle.sip_selection.specs.RequestLines.{BeginsVia, RequestText}
use Rattle.sip_selection.specs.declared.request.Request.{Request}
use Rattle.sip_selection.specs.declared.request.Request.TheVariants.{Uri, Via}
use Rattle.sipwhere.specs.declared.destination.Destination.{Destination}
use Rattle.sipwhere.specs.declared.destination.Destination.TheVariants.{Located, Named}
use Rattle.sipwhere.specs.declared.locate_settings.LocateSettings.{LocateSettings}

-- ---- hosts of maddr

-- a text is a hostname
abbrev pub IsNameText : List ℕ → Type 0
IsNameText text = DomainText text (name_of text)

-- where a step has a name, that is a hostname
abbrev pub NamesHost : Step → Type 0
NamesHost Connection = ⊤
NamesHost (Opened to) = ⊤
NamesHost (Maddr to ttl) = ⊤
NamesHost (MaddrName name port) = IsNameText name.now
NamesHost (Received to symmetric) = ⊤
NamesHost SentBy = ⊤

-- ---- the transport

-- a transport that a Via names, where it is among the sender's
abbrev pub offered_in : CapsValue → Spoken → Option Transport
offered_in caps (spoken.Known transport) = if offers caps transport then Some transport else None
offered_in caps spoken.Other = None

-- the transport over which a response goes where the parameters of its Via say: the one that the
-- Via names, where it is among the sender's and parameters count
abbrev pub transport_for : LocateSettings → Spoken → Option Transport
transport_for settings named = if settings.by_sent_by then None else offered_in settings.caps named

-- ---- the way of a response

-- The response by the Via of a text goes so over this transport, where the connection that its
-- request came over is not used (RFC 3261 18.2.2, RFC 3581 4).
pub record IsStep (text : List ℕ) (via : ViaValue) (over : Transport) (step : Option Step) : Type 0
  where
    pub rest : List ℕ
    pub begins : BeginsVia text rest
    pub params : RouteParams
    pub says : ViaRouteText rest via params
    pub route : ResponseRoute
    pub is : IsRoute over via.port params route
    pub first : step ≡ past_connection route

-- the target of an endpoint, whose certificate has to be of this host
abbrev pub target_at : Transport → Host → Endpoint → Destination
target_at over host to =
    Named (record { transport = over; address = to.address; port = to.port }) host

-- the addresses of a name at a port, as of a Via that has them in front
abbrev pub named_host : Spoken → List ℕ → ℕ → Destination
named_host named name port = Located (Via (record {
  transport = named;
  host = host.Domain (name_of name);
  port = Some port;
}))

-- where a response goes by a step: to the address that it has; to the addresses of the name in
-- `maddr`; or to where RFC 3263 5 says that the host and port in front are
abbrev pub by_step : ViaValue → Transport → Step → Destination
by_step via over Connection = Located (Via via)
by_step via over (Opened to) = target_at over via.host to
by_step via over (Maddr to ttl) = target_at over via.host to
by_step via over (MaddrName name port) = named_host via.transport name.now port
by_step via over (Received to symmetric) = target_at over via.host to
by_step via over SentBy = Located (Via via)

-- the same, where there may be no step
abbrev pub by_way : ViaValue → Transport → Option Step → Destination
by_way via over None = Located (Via via)
by_way via over (Some step) = by_step via over step

-- where the response by the Via of a text goes: over a transport as the parameters say, and without
-- one to where RFC 3263 5 says that the host and port in front are
abbrev pub IsOfVia : List ℕ → ViaValue → Option Transport → Destination → Type 0
IsOfVia text via None it = it ≡ Located (Via via)
IsOfVia text via (Some over) it =
    (step : Option Step) × IsStep text via over step × (it ≡ by_way via over step)

-- ---- the destination of a text

-- where what a text asks for goes, whose request this is
abbrev pub IsOfRequest : LocateSettings → List ℕ → Request → Destination → Type 0
IsOfRequest settings text (Uri uri) it = it ≡ Located (Uri uri)
IsOfRequest settings text (Via via) it = IsOfVia text via (transport_for settings via.transport) it

-- where what a text asks for goes
pub record IsDestination (settings : LocateSettings) (text : List ℕ) (it : Destination)
    : Type 0 where
  pub request : Request
  pub is : RequestText text request
  pub of : IsOfRequest settings text request it
