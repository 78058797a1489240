-- Where a request goes: RFC 3263 4.1, 4.2 and 5 over the answers given, as one value.
use Rattle.std.specs.Prelude.{⊤, ℕ, Bool, not, List, [], ◌∷◌, map, filter, Option, Some, None, unwrap_or, Result, Ok, Err, if◌then◌else◌}
use Rattle.std.specs.List.{filter_map, flat_map, list_any}
use Rattle.dns_message.specs.declared.kind.Kind.TheVariants as kind
use Rattle.dns_message.specs.declared.naptr.NaptrRecord.{NaptrRecord}
use Rattle.dns_message.specs.declared.question.Question.{Question}
use Rattle.sip_uri.specs.declared.host.Host.{Host}
use Rattle.sip_uri.specs.declared.host.Host.TheVariants as host
use Rattle.ip_text.specs.declared.address.Address.{Address}
use Rattle.ip_text.specs.declared.address.Address.TheVariants as address
use Rattle.sip_uri.specs.declared.transport.Spoken.{Spoken}
use Rattle.sip_uri.specs.declared.transport.Transport.{Transport}
use Rattle.sip_uri.specs.declared.transport.Transport.TheVariants.{Tls}
use Rattle.sip_selection.specs.declared.caps.Caps.{Caps}
use Rattle.sip_uri.specs.Same.{same_transport}
use Rattle.sip_selection.specs.Callers.{offers, kinds_of, sized}
use Rattle.sip_selection.specs.Known.{Given, Needing, after, made, answer_to, rules_in}
use Rattle.sip_selection.specs.Requests.{target_of, port_of, spoken_of, is_secure, transport_of, default_transport, default_port}
use Rattle.sip_selection.specs.Rules.{usable_services}
use Rattle.sip_selection.specs.Services.{service_at, target_at, targets_of, Offer, offers_along, is_listed, is_denied, offered_targets}
use Rattle.sip_selection.specs.declared.reason.Reason.{Reason}
use Rattle.sip_selection.specs.declared.reason.Reason.TheVariants.{TransportUnsupported, NotOffered, NoAddress}
use Rattle.sip_selection.specs.declared.request.Request.{Request}
use Rattle.sip_selection.specs.declared.target.Target.{Target}
use Rattle.sip_selection.specs.declared.service.Service.{Service}

-- where a request goes: to `targets`, nowhere (`refused`), or as the answer to a question will say
-- (`need`)
pub data Resolution : Type 0 where
  targets : List Target → Resolution
  refused : Reason → Resolution
  need : Question → Resolution

-- targets or why there are none, in which an empty list is none
abbrev pub Settled : Type 0
Settled = Result (List Target) Reason

-- where a request goes, once no answer is missing
abbrev pub settled : Settled → Resolution
settled (Ok []) = refused NoAddress
settled (Ok (first ∷ others)) = targets (first ∷ others)
settled (Err reason) = refused reason

-- it is not known, so far, that the request goes nowhere
abbrev pub IsNotRefused : Resolution → Type 0
IsNotRefused (targets list) = ⊤
IsNotRefused (refused reason) = ⊥
IsNotRefused (need question) = ⊤

-- where a request goes, by a value that may need an answer
abbrev pub resolved : Needing Settled → Resolution
resolved (Ok it) = settled it
resolved (Err question) = need question

-- a transport, if it is one of the caller's
abbrev pub if_offered : Caps → Transport → Result Transport Reason
if_offered caps transport =
    if offers caps transport then Ok transport else Err TransportUnsupported

-- the transport that a request means, or TCP in place of UDP where it is too large for that (RFC
-- 3261 18.1.1), if it is one of the caller's
abbrev pub offered : Caps → Result Transport Reason → Result Transport Reason
offered caps (Ok transport) = if_offered caps (sized caps.is_large transport)
offered caps (Err reason) = Err reason

-- the transport where none is named: TLS for SIPS, else UDP, or TCP for a large request
abbrev pub offered_default : Bool → Caps → Result Transport Reason
offered_default secure caps = offered caps (Ok (default_transport secure))

-- ---- addresses

-- the target of an address, at the port that is written or else the default one
abbrev pub to_address : Address → Option ℕ → Result Transport Reason → Needing Settled
to_address address port (Ok transport) =
    Ok (Ok (target_at transport (unwrap_or port (default_port transport)) address ∷ []))
to_address address port (Err reason) = Ok (Err reason)

module _ (caps : Caps) (given : List Given) where
  -- the targets of a name at a port
  abbrev pub to_name : List (List ℕ) → ℕ → Transport → Needing Settled
  to_name name port transport =
      made Ok (targets_of given (kinds_of caps.families) caps.is_fixed transport port name)

  -- the targets of a name at a port, if there is a transport
  abbrev pub to_port : List (List ℕ) → ℕ → Result Transport Reason → Needing Settled
  to_port name port (Ok transport) = to_name name port transport
  to_port name port (Err reason) = Ok (Err reason)

  -- the targets of a domain that has no services, at the default port
  abbrev pub to_domain : List (List ℕ) → Result Transport Reason → Needing Settled
  to_domain name (Ok transport) = to_name name (default_port transport) transport
  to_domain name (Err reason) = Ok (Err reason)

  -- ---- services

  -- The targets of all services that are listed, joined. Where none is listed and one is denied,
  -- the request is not offered; where all are absent, it goes to the domain itself.
  abbrev pub by_offers : List (List ℕ) → Result Transport Reason → List Offer → Needing Settled
  by_offers name fallback offers =
      if list_any is_listed offers then Ok (Ok (flat_map offered_targets offers)) else
      (if list_any is_denied offers then Ok (Err NotOffered) else to_domain name fallback)

module _ (caps : Caps) (words : List ℕ) (given : List Given) where
  -- the targets of these services, or of the domain where all of them are absent
  abbrev pub along : List (List ℕ) → Result Transport Reason → List Service → Needing Settled
  along name fallback services =
      after (by_offers caps given name fallback)
      (offers_along given (kinds_of caps.families) caps.is_fixed words services 0)

  -- the targets of a domain by its service of the transport that is named
  abbrev pub to_service : List (List ℕ) → Result Transport Reason → Needing Settled
  to_service name (Ok transport) = along name (Ok transport) (service_at name transport ∷ [])
  to_service name (Err reason) = Ok (Err reason)

-- ---- without NAPTR records: a SIP URI does without TLS, and a SIPS URI takes it alone

-- a transport is tried where there is no NAPTR record: TLS for a SIPS URI, any other for a SIP URI
abbrev pub is_tried : Bool → Transport → Bool
is_tried secure transport =
    if secure then same_transport transport Tls else not (same_transport transport Tls)

abbrev pub tried_services : Bool → List (List ℕ) → List (Option Transport) → List Service
tried_services secure name slots =
    map (service_at name) (filter (is_tried secure) (filter_map (λ slot. slot) slots))

-- the services of a domain by the caller's own transports, in their order
abbrev pub own_services : Bool → Caps → List (List ℕ) → List Service
own_services secure caps name = map (service_at name) (filter (is_tried secure) caps.transports)

module _ (secure : Bool) (caps : Caps) (words : List ℕ) (given : List Given) where
  -- the targets of the services that NAPTR records lead to; where these lead to none, those of the
  -- domain's own services
  abbrev pub by_services : List (List ℕ) → List Service → Needing Settled
  by_services name [] = along caps words given name (offered_default secure caps)
      (own_services secure caps name)
  by_services name (first ∷ others) = along caps words given name (Ok first.transport)
      (first ∷ others)

  -- the targets of a name by these NAPTR records
  abbrev pub by_rules : List (List ℕ) → List NaptrRecord → Needing Settled
  by_rules name rules = by_services name (usable_services secure caps rules)

  -- the targets of a name by its NAPTR records (RFC 3263 4.1)
  abbrev pub by_naptr : List (List ℕ) → Needing Settled
  by_naptr name =
      after (λ answer. by_rules name (rules_in answer.records))
      (answer_to given (record { name = name; kind = kind.Naptr }))

  -- the targets of a name by its NAPTR records; a SIPS URI is refused before anything is asked
  -- where TLS is not among the caller's transports
  abbrev pub discovered : List (List ℕ) → Result Transport Reason → Needing Settled
  discovered name (Ok transport) = by_naptr name
  discovered name (Err reason) = if secure then Ok (Err reason) else by_naptr name

-- ---- the request

module _ (request : Request) (caps : Caps) (words : List ℕ) (given : List Given) where
  -- the transport that the request means, if the caller can use it
  abbrev pub transport : Result Transport Reason
  transport = offered caps (transport_of request)

  -- where the request goes, by its host, its port and the transport that it names (RFC 3263 4.1,
  -- 4.2, 5)
  abbrev pub to_host : Host → Option ℕ → Option Spoken → Needing Settled
  to_host (host.V4 octets) port named = to_address (address.V4 octets) port transport
  to_host (host.V6 octets) port named = to_address (address.V6 octets) port transport
  to_host (host.Domain name) (Some port) named = to_port caps given name port transport
  to_host (host.Domain name) None (Some named) = to_service caps words given name transport
  to_host (host.Domain name) None None =
      discovered (is_secure request) caps words given name
      (offered_default (is_secure request) caps)

  -- where the request goes, as a value that needs answers (`Needing`)
  abbrev pub chosen : Needing Settled
  chosen = to_host (target_of request) (port_of request) (spoken_of request)

  -- where a request goes, by the cases of the standard: an address; a name with a port; a name with
  -- a transport; a name by its NAPTR records (RFC 3263 4.1, 4.2, 5)
  abbrev pub locate : Resolution
  locate = resolved chosen
