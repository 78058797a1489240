-- Where a request goes stays so when further answers are given.
use Rattle.std.proofs.Common.{◌≡◌, ℕ, Bool, true, false, List, [], ◌∷◌, ◌++◌, Option, Some, None, Result, Ok, Err, refl, sym, ap, ◌∙◌}
use Rattle.std.specs.List.{list_any}
use Rattle.dns_message.specs.declared.kind.Kind.TheVariants as kind
use Rattle.dns_message.specs.declared.question.Question.{Question}
use Rattle.sip_uri.specs.declared.host.Host.{Host}
use Rattle.sip_uri.specs.declared.host.Host.TheVariants as host
use Rattle.sip_uri.specs.declared.transport.Spoken.{Spoken}
use Rattle.sip_uri.specs.declared.transport.Transport.{Transport}
use Rattle.sip_selection.specs.Callers.{kinds_of}
use Rattle.sip_selection.specs.Choice.{IsNotRefused, Resolution, targets, refused, need, Settled, resolved, offered, offered_default, own_services, to_name, to_domain, by_offers, along, by_services, by_naptr, to_port, to_service, discovered, to_host, locate}
use Rattle.sip_selection.specs.Known.{Given, Needing, rules_in}
use Rattle.sip_selection.specs.Requests.{target_of, port_of, spoken_of, is_secure, transport_of, default_port}
use Rattle.sip_selection.specs.Rules.{usable_services}
use Rattle.sip_selection.specs.Services.{service_at, Offer, is_listed, is_denied}
use Rattle.sip_selection.specs.declared.service.Service.{Service}
use Rattle.sip_selection.specs.declared.caps.Caps.{Caps}
use Rattle.sip_selection.specs.declared.reason.Reason.{Reason}
use Rattle.sip_selection.specs.declared.request.Request.{Request}
use Rattle.sip_selection.proofs.Growth.{Grows, made-grows, after-grows, answer-grows, targets-grow, offers-grow}

module _ (caps : Caps) (words : List ℕ) (given more : List Given) where
  abbrev all : List Given
  all = given ++ more

  name-grows : (name : List (List ℕ)) (port : ℕ) (transport : Transport)
      → Grows (to_name caps given name port transport) (to_name caps all name port transport)
  name-grows name port transport = made-grows Ok _ _ (targets-grow given more (kinds_of caps.families) caps.is_fixed transport port name)

  domain-grows : (name : List (List ℕ)) (fallback : Result Transport Reason)
      → Grows (to_domain caps given name fallback) (to_domain caps all name fallback)
  domain-grows name (Ok transport) = name-grows name (default_port transport) transport
  domain-grows name (Err reason) = λ x is. is

  offers-by : (name : List (List ℕ)) (fallback : Result Transport Reason) (offers : List Offer) (any denied : Bool)
      → list_any is_listed offers ≡ any → list_any is_denied offers ≡ denied
      → Grows (by_offers caps given name fallback offers) (by_offers caps all name fallback offers)
  offers-by name fallback offers true denied e e' = rw e (λ x is. is)
  offers-by name fallback offers false true e e' = rw (e, e') (λ x is. is)
  offers-by name fallback offers false false e e' = rw (e, e') (domain-grows name fallback)

  along-grows : (name : List (List ℕ)) (fallback : Result Transport Reason) (services : List Service)
      → Grows (along caps words given name fallback services) (along caps words all name fallback services)
  along-grows name fallback services =
      after-grows _ _ _ _ (offers-grow given more (kinds_of caps.families) caps.is_fixed words services 0)
      (λ offers. offers-by name fallback offers (list_any is_listed offers) (list_any is_denied offers) refl refl)

  port-grows : (name : List (List ℕ)) (port : ℕ) (transport : Result Transport Reason)
      → Grows (to_port caps given name port transport) (to_port caps all name port transport)
  port-grows name port (Ok transport) = name-grows name port transport
  port-grows name port (Err reason) = λ x is. is

  named_service-grows : (name : List (List ℕ)) (transport : Result Transport Reason)
      → Grows (to_service caps words given name transport) (to_service caps words all name transport)
  named_service-grows name (Ok transport) = along-grows name (Ok transport) (service_at name transport ∷ [])
  named_service-grows name (Err reason) = λ x is. is

  module _ (secure : Bool) where
    by_services-grows : (name : List (List ℕ)) (services : List Service)
        → Grows (by_services secure caps words given name services) (by_services secure caps words all name services)
    by_services-grows name [] = along-grows name (offered_default secure caps) (own_services secure caps name)
    by_services-grows name (first ∷ others) = along-grows name (Ok first.transport) (first ∷ others)

    naptr-grows : (name : List (List ℕ)) → Grows (by_naptr secure caps words given name) (by_naptr secure caps words all name)
    naptr-grows name =
        after-grows _ _ _ _ (answer-grows given more (record { name = name; kind = kind.Naptr }))
        (λ answer. by_services-grows name (usable_services secure caps (rules_in answer.records)))

  discovered-grows : (secure : Bool) (name : List (List ℕ)) (transport : Result Transport Reason)
      → Grows (discovered secure caps words given name transport) (discovered secure caps words all name transport)
  discovered-grows secure name (Ok transport) = naptr-grows secure name
  discovered-grows true name (Err reason) = λ x is. is
  discovered-grows false name (Err reason) = naptr-grows false name

  module _ (request : Request) where
    host-grows : (target : Host) (port : Option ℕ) (named : Option Spoken)
        → Grows (to_host request caps words given target port named) (to_host request caps words all target port named)
    host-grows (host.V4 octets) port named = λ x is. is
    host-grows (host.V6 octets) port named = λ x is. is
    host-grows (host.Domain name) (Some port) named = port-grows name port (offered caps (transport_of request))
    host-grows (host.Domain name) None (Some named) = named_service-grows name (offered caps (transport_of request))
    host-grows (host.Domain name) None None = discovered-grows (is_secure request) name (offered_default (is_secure request) caps)

    -- what is no question, was known
    resolved-grows : (n n' : Needing Settled) → Grows n n' → ((question : Question) → resolved n ≡ need question → ⊥)
        → resolved n' ≡ resolved n
    resolved-grows (Ok it) n' grows final = ap resolved (grows it refl)
    resolved-grows (Err question) n' grows final = absurd (final question refl)

    pub final_is : ((question : Question) → locate request caps words given ≡ need question → ⊥)
        → locate request caps words all ≡ locate request caps words given
    final_is final =
        resolved-grows (to_host request caps words given (target_of request) (port_of request) (spoken_of request))
        (to_host request caps words all (target_of request) (port_of request) (spoken_of request))
        (host-grows (target_of request) (port_of request) (spoken_of request)) final

-- what asks with some answers is not refused without any
module _ (request : Request) (caps : Caps) (words : List ℕ) (given : List Given) (question : Question)
    (asks : locate request caps words given ≡ need question) where
  asks-by : (resolution : Resolution) → locate request caps words [] ≡ resolution → IsNotRefused resolution
  asks-by (targets list) is = tt
  asks-by (need first) is = tt
  asks-by (refused reason) is =
      let never : refused reason ≡ need question =
      sym is
      ∙ sym (final_is caps words [] given request (λ first asked. let no : refused reason ≡ need first = sym is ∙ asked in absurd cc))
      ∙ asks in
      absurd cc

  pub asks-first : IsNotRefused (locate request caps words [])
  asks-first = asks-by (locate request caps words []) refl
