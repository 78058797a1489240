-- Over which transports a request goes, to which addresses, and which questions it needs.
use Rattle.std.proofs.Common.{if◌then◌else◌, ◌≡◌, ℕ, Bool, true, false, List, [], ◌∷◌, filter, Option, Some, None, Result, Ok, Err, All, flat_map, unwrap_or, refl, subst, ◌∙◌, arith}
use Rattle.std.specs.Bool.{⊤}
use Rattle.std.specs.List.{list_any}
use Rattle.std.proofs.lemmas.List.Elements.{All-cons, All-head, All-map, All-nil, All-weaker}
use Rattle.dns_message.specs.declared.kind.Kind.TheVariants as kind
use Rattle.dns_message.specs.declared.question.Question.{Question}
use Rattle.sip_uri.specs.declared.host.Host.{Host}
use Rattle.sip_uri.specs.declared.host.Host.TheVariants as host
use Rattle.ip_text.specs.declared.address.Address.{Address}
use Rattle.ip_text.specs.declared.address.Address.TheVariants as address
use Rattle.sip_uri.specs.declared.transport.Spoken.{Spoken}
use Rattle.sip_uri.specs.declared.transport.Transport.{Transport}
use Rattle.sip_selection.specs.Callers.{kinds_of, offers}
use Rattle.sip_selection.specs.Choice.{Resolution, targets, refused, need, Settled, settled, resolved, offered, offered_default, own_services, is_tried, to_name, to_domain, by_offers, along, by_services, by_rules, by_naptr, to_address, to_port, to_service, discovered, to_host, locate}
use Rattle.sip_selection.specs.Known.{Given, Needing, find_answer, answer_to, rules_in}
use Rattle.sip_selection.specs.Requests.{target_of, port_of, spoken_of, is_secure, transport_of, default_port}
use Rattle.sip_selection.specs.Rules.{is_usable, usable_services}
use Rattle.sip_selection.specs.Services.{service_at, target_at, targets_of, Offer, offers_along, offered_targets, is_listed, is_denied}
use Rattle.sip_selection.specs.declared.service.Service.{Service}
use Rattle.sip_selection.specs.declared.caps.Caps.{Caps}
use Rattle.sip_selection.specs.declared.reason.Reason.{Reason}
use Rattle.sip_selection.specs.declared.request.Request.{Request}
use Rattle.sip_selection.specs.declared.target.Target.{Target}
use Rattle.sip_selection.proofs.Meeting.{Meets, meets-more, made-meets, after-meets}
use Rattle.sip_selection.proofs.Sources.{IsMissing, IsSound, answer-meets, targets-meet, offers-meet}
use Rattle.sip_selection.proofs.Services.{usable_services-over}

-- what holds of the targets, where there are any
abbrev pub Settles : (List Target → Type 0) → Settled → Type 0
Settles Q (Ok found) = Q found
Settles Q (Err reason) = ⊤

abbrev pub Resolves : (List Target → Type 0) → (Question → Type 0) → Resolution → Type 0
Resolves Q R (targets found) = Q found
Resolves Q R (refused reason) = ⊤
Resolves Q R (need question) = R question

pub settles-more : (Q Q' : List Target → Type 0) (it : Settled) → ((found : List Target) → Q found → Q' found) → Settles Q it
    → Settles Q' it
settles-more Q Q' (Ok found) more is = more found is
settles-more Q Q' (Err reason) more is = tt

settles-resolves : (Q : List Target → Type 0) (R : Question → Type 0) (it : Settled) → Settles Q it → Resolves Q R (settled it)
settles-resolves Q R (Ok []) is = tt
settles-resolves Q R (Ok (first ∷ others)) is = is
settles-resolves Q R (Err reason) is = tt

pub meets-resolves : (Q : List Target → Type 0) (R : Question → Type 0) (n : Needing Settled) → Meets (Settles Q) R n
    → Resolves Q R (resolved n)
meets-resolves Q R (Ok it) is = settles-resolves Q R it is
meets-resolves Q R (Err question) is = is

module _ (request : Request) (caps : Caps) (words : List ℕ) (given : List Given) (T : Transport → Type 0) where
  -- the transports that come into question are such
  pub record AllOver : Type 0 where
    pub by_rule : (transport : Transport) → is_usable (is_secure request) caps transport ≡ true → T transport
    pub own : All T (filter (is_tried (is_secure request)) caps.transports)
    pub meant : (transport : Transport) → offered caps (transport_of request) ≡ Ok transport → T transport
    pub usually : (transport : Transport) → offered_default (is_secure request) caps ≡ Ok transport → T transport

  abbrev pub Sound : Target → Type 0
  Sound = IsSound given (kinds_of caps.families) caps.is_fixed T

  abbrev pub Missing : Question → Type 0
  Missing = IsMissing given (kinds_of caps.families)

  abbrev Sounds : Needing Settled → Type 0
  Sounds = Meets (Settles (All Sound)) Missing

  name-meets : (name : List (List ℕ)) (port : ℕ) (transport : Transport) → T transport
      → Sounds (to_name caps given name port transport)
  name-meets name port transport is =
      made-meets Missing (Settles (All Sound)) Ok (targets_of given (kinds_of caps.families) caps.is_fixed transport port name)
      (targets-meet given (kinds_of caps.families) caps.is_fixed T transport is port name)

  domain-meets : (name : List (List ℕ)) (fallback : Result Transport Reason)
      → ((transport : Transport) → fallback ≡ Ok transport → T transport) → Sounds (to_domain caps given name fallback)
  domain-meets name (Ok transport) over = name-meets name (default_port transport) transport (over transport refl)
  domain-meets name (Err reason) over = tt

  offers-by : (name : List (List ℕ)) (fallback : Result Transport Reason) (offers : List Offer) (any denied : Bool)
      → list_any is_listed offers ≡ any → list_any is_denied offers ≡ denied
      → ((transport : Transport) → fallback ≡ Ok transport → T transport) → All Sound (flat_map offered_targets offers)
      → Sounds (by_offers caps given name fallback offers)
  offers-by name fallback offers true denied e e' over are = rw e are
  offers-by name fallback offers false true e e' over are = rw (e, e') tt
  offers-by name fallback offers false false e e' over are = rw (e, e') (domain-meets name fallback over)

  along-meets : (name : List (List ℕ)) (fallback : Result Transport Reason) (services : List Service)
      → ((transport : Transport) → fallback ≡ Ok transport → T transport) → All (λ service. T service.transport) services
      → Sounds (along caps words given name fallback services)
  along-meets name fallback services over each =
      after-meets Missing (Settles (All Sound)) (by_offers caps given name fallback)
      (offers_along given (kinds_of caps.families) caps.is_fixed words services 0)
      (meets-more Missing (λ offers. All Sound (flat_map offered_targets offers))
      (λ offers. Sounds (by_offers caps given name fallback offers))
      (offers_along given (kinds_of caps.families) caps.is_fixed words services 0)
      (λ offers are. offers-by name fallback offers (list_any is_listed offers) (list_any is_denied offers) refl refl over are)
      (offers-meet given (kinds_of caps.families) caps.is_fixed T words services 0 each))

  module _ (over : AllOver) where
    by_services-meets : (name : List (List ℕ)) (services : List Service) → All (λ service. T service.transport) services
        → Sounds (by_services (is_secure request) caps words given name services)
    by_services-meets name [] each =
        along-meets name (offered_default (is_secure request) caps) (own_services (is_secure request) caps name) over.usually
        (All-map (λ service. T service.transport) (service_at name) (filter (is_tried (is_secure request)) caps.transports) over.own)
    by_services-meets name (first ∷ others) each =
        along-meets name (Ok first.transport) (first ∷ others)
        (λ transport is. let same : first.transport ≡ transport = cc in subst T same
        (All-head (λ service. T service.transport) first others each)) each

    naptr-meets : (name : List (List ℕ)) → Sounds (by_naptr (is_secure request) caps words given name)
    naptr-meets name =
        let question : Question = record { name = name; kind = kind.Naptr } in
        after-meets Missing (Settles (All Sound)) (λ answer. by_rules (is_secure request) caps words given name (rules_in answer.records))
        (answer_to given question)
        (meets-more Missing (λ answer. find_answer given question ≡ Some answer)
        (λ answer. Sounds (by_rules (is_secure request) caps words given name (rules_in answer.records))) (answer_to given question)
        (λ answer found. by_services-meets name (usable_services (is_secure request) caps (rules_in answer.records))
        (usable_services-over (is_secure request) caps T over.by_rule (rules_in answer.records)))
        (answer-meets given (kinds_of caps.families) question (0, omega arith, refl)))

    port-meets : (name : List (List ℕ)) (port : ℕ) (transport : Result Transport Reason)
        → offered caps (transport_of request) ≡ transport
        → Sounds (to_port caps given name port transport)
    port-meets name port (Ok transport) e = name-meets name port transport (over.meant transport e)
    port-meets name port (Err reason) e = tt

    named_service-meets : (name : List (List ℕ)) (transport : Result Transport Reason)
        → offered caps (transport_of request) ≡ transport
        → Sounds (to_service caps words given name transport)
    named_service-meets name (Ok transport) e =
        along-meets name (Ok transport) (service_at name transport ∷ []) (λ same is. over.meant same (e ∙ is))
        (All-cons (λ service. T service.transport) (service_at name transport) [] (over.meant transport e)
        (All-nil (λ service. T service.transport)))
    named_service-meets name (Err reason) e = tt

    discovered-or : (name : List (List ℕ)) (reason : Reason) (secure : Bool)
        → Sounds (if secure then Ok (Err reason) else by_naptr (is_secure request) caps words given name)
    discovered-or name reason true = tt
    discovered-or name reason false = naptr-meets name

    discovered-meets : (name : List (List ℕ)) (transport : Result Transport Reason)
        → Sounds (discovered (is_secure request) caps words given name transport)
    discovered-meets name (Err reason) = discovered-or name reason (is_secure request)
    discovered-meets name (Ok transport) = naptr-meets name

    pub domain-sound : (name : List (List ℕ)) (port : Option ℕ) (named : Option Spoken)
        → Sounds (to_host request caps words given (host.Domain name) port named)
    domain-sound name (Some port) named = port-meets name port (offered caps (transport_of request)) refl
    domain-sound name None (Some named) = named_service-meets name (offered caps (transport_of request)) refl
    domain-sound name None None = discovered-meets name (offered_default (is_secure request) caps)

    -- ---- any host

    address-over : (address : Address) (port : Option ℕ) (transport : Result Transport Reason)
        → offered caps (transport_of request) ≡ transport
        → Meets (Settles (All (λ it. T it.transport))) Missing (to_address address port transport)
    address-over address port (Ok transport) e =
        let target : Target = target_at transport (unwrap_or port (default_port transport)) address in
        All-cons (λ it. T it.transport) target [] (over.meant transport e) (All-nil (λ it. T it.transport))
    address-over address port (Err reason) e = tt

    host-over : (host : Host) (port : Option ℕ) (named : Option Spoken)
        → Meets (Settles (All (λ it. T it.transport))) Missing (to_host request caps words given host port named)
    host-over (host.V4 octets) port named = address-over (address.V4 octets) port
        (offered caps (transport_of request)) refl
    host-over (host.V6 octets) port named = address-over (address.V6 octets) port
        (offered caps (transport_of request)) refl
    host-over (host.Domain name) port named =
        meets-more Missing (Settles (All Sound)) (Settles (All (λ it. T it.transport)))
        (to_host request caps words given (host.Domain name) port named)
        (λ it is. settles-more (All Sound) (All (λ target. T target.transport)) it
        (λ found are. All-weaker Sound (λ target. T target.transport) (λ target sound. sound.0) found are) is)
        (domain-sound name port named)

    pub all_over : Resolves (All (λ it. T it.transport)) Missing (locate request caps words given)
    all_over =
        meets-resolves (All (λ it. T it.transport)) Missing
        (to_host request caps words given (target_of request) (port_of request) (spoken_of request))
        (host-over (target_of request) (port_of request) (spoken_of request))

    pub all_sound : (name : List (List ℕ)) → target_of request ≡ host.Domain name
        → Resolves (All Sound) Missing (locate request caps words given)
    all_sound name is =
        meets-resolves (All Sound) Missing (to_host request caps words given (target_of request) (port_of request) (spoken_of request))
        (rw is (domain-sound name (port_of request) (spoken_of request)))
