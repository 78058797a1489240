-- What is left of a choice, from one stage to the next.
use Rattle.std.proofs.Common.{if◌then◌else◌, ◌||◌, drop, ◌≡◌, ℕ, ◌≤◌, Bool, true, false, true≢false, List, [], ◌++◌, length, Option, Some, None, Result, Ok, Err, refl, ap, ◌∙◌}
use Rattle.std.specs.Arc.{arc_value}
use Rattle.std.specs.List.{flat_map, list_any}
use Rattle.std.proofs.lemmas.List.{drop_all}
use Rattle.dns_answers.specs.Values.{AnswerValue}
use Rattle.dns_message.specs.declared.kind.Kind.TheVariants as kind
use Rattle.dns_message.specs.declared.question.Question.{Question}
use Rattle.sip_uri.specs.declared.host.Host.TheVariants as host
use Rattle.sip_uri.specs.declared.transport.Spoken.{Spoken}
use Rattle.sip_uri.specs.declared.transport.Transport.{Transport}
use Rattle.sip_selection.specs.Callers.{kinds_of}
use Rattle.sip_selection.specs.Choice.{Settled, offered, to_host, to_domain, along, by_offers, by_rules, by_naptr}
use Rattle.sip_selection.specs.Known.{Given, Needing, after, made, answer_to, rules_in}
use Rattle.sip_selection.specs.Requests.{is_secure, transport_of}
use Rattle.sip_selection.specs.Services.{Offer, is_listed, is_denied, offered_targets, offers_along}
use Rattle.sip_selection.specs.Stages.{Extends, in_front, start, ended, kinds_left, listing_left, position_left, stage_left, domain_choice, Comes, Goes}
use Rattle.sip_selection.specs.declared.caps.Caps.{Caps}
use Rattle.sip_selection.specs.declared.reason.Reason.{Reason}
use Rattle.sip_selection.specs.declared.request.Request.{Request}
use Rattle.sip_selection.specs.declared.stage.Context.{Context}
use Rattle.sip_selection.specs.declared.reason.Reason.TheVariants.{NotOffered}
use Rattle.sip_selection.specs.declared.stage.ServiceStage.TheVariants.{ServiceRecords, Server}
use Rattle.sip_selection.specs.declared.stage.Stage.{Stage}
use Rattle.sip_selection.specs.declared.stage.Stage.TheVariants.{Rules, Along, Domain}
use Rattle.sip_selection.specs.declared.stage.Step.{Step}
use Rattle.sip_selection.specs.declared.stage.Position.{Position}
use Rattle.sip_selection.specs.declared.target.Target.{Target}
use Rattle.sip_selection.specs.declared.service.Service.{Service}

abbrev pub Left : Type 0
Left = List Target → List Given → Needing Settled

module _ {Source Seat : Type 0} (context : Context Source Seat) (given : List Given) where
  -- what is left the same, comes to the same
  pub goes-too : (left left' : Left) (step : Step) (before now : List Target)
      → ((found : List Target) (all : List Given) → Extends given all → left' found all ≡ left found all)
      → Goes context given left step before now → Goes context given left' step before now
  goes-too left left' step before now same goes = λ front. (
    λ all extends. same (front ++ before) all extends ∙ (goes front).0 all extends,
    (goes front).1,
  )

  -- one part, and then another
  pub goes-then : (left left' : Left) (step : Step) (before between now : List Target)
      → ((front : List Target) (all : List Given) → Extends given all → left' (front ++ before) all
      ≡ left (front ++ between) all)
      → Goes context given left step between now → Goes context given left' step before now
  goes-then left left' step before between now first goes = λ front. (
    λ all extends. first front all extends ∙ (goes front).0 all extends,
    (goes front).1,
  )

-- ---- services

module _ (caps : Caps) (words : List ℕ) (name : List (List ℕ)) (all : List Given) where
  -- behind the last service
  pub position-ended : (services : List Service) (fallback : Result Transport Reason) (position : Position) (found : List Target)
      → length services ≤ position.service
      → position_left caps words name all services fallback position found ≡ ended caps name all fallback position found []
  position-ended services fallback position found past = rw (drop_all position.service services past) refl

-- before the first service, what is found stands in front
module _ (caps : Caps) (words : List ℕ) (name : List (List ℕ)) (all : List Given) (fallback : Result Transport Reason)
    (found : List Target) where
  along-by : (offers : List Offer) (any denied : Bool) → list_any is_listed offers ≡ any → list_any is_denied offers ≡ denied
      → made (in_front found) (by_offers caps all name fallback offers) ≡ ended caps name all fallback start found offers
  along-by offers true denied e e' = rw e refl
  along-by offers false true e e' = rw (e, e') refl
  along-by offers false false e e' = rw (e, e') refl

  along-each : (n : Needing (List Offer))
      → made (in_front found) (after (by_offers caps all name fallback) n) ≡ after (ended caps name all fallback start found) n
  along-each (Ok offers) = along-by offers (list_any is_listed offers) (list_any is_denied offers) refl refl
  along-each (Err question) = refl

  pub along-left : (services : List Service)
      → made (in_front found) (along caps words all name fallback services)
      ≡ position_left caps words name all services fallback start found
  along-left services = along-each (offers_along all (kinds_of caps.families) caps.is_fixed words services 0)

-- what is made of a value that needs an answer needs the same one
pub made-asks : {X Y : Type 0} (f : X → Y) (n : Needing X) (question : Question) → made f n ≡ Err question → n ≡ Err question
made-asks f (Ok value) question is = absurd cc
made-asks f (Err other) question is =
    let same : other ≡ question = cc in
    ap Err same

-- what is discovered where the URI is not a SIPS URI
pub naptr-asks : (secure : Bool) (reason : Reason) (naptr : Needing Settled) (question : Question) → secure ≡ false
    → naptr ≡ Err question → (if secure then Ok (Err reason) else naptr) ≡ Err question
naptr-asks true reason naptr question e is = absurd (true≢false e)
naptr-asks false reason naptr question e is = is

-- with nothing in front
pub nothing-in-front : (n : Needing Settled) → n ≡ made (in_front []) n
nothing-in-front (Ok (Ok found)) = refl
nothing-in-front (Ok (Err reason)) = refl
nothing-in-front (Err question) = refl

-- where rules lead
pub by_services-left : (secure : Bool) (caps : Caps) (words : List ℕ) (name : List (List ℕ)) (all : List Given)
    (services : List Service) (fallback : Result Transport Reason) (found : List Target) (answer : AnswerValue)
    → answer_to all (record { name = name; kind = kind.Naptr }) ≡ Ok answer
    → by_rules secure caps words all name (rules_in answer.records) ≡ along caps words all name fallback services
    → made (in_front found) (by_naptr secure caps words all name) ≡ made (in_front found) (along caps words all name fallback services)
by_services-left secure caps words name all services fallback found answer known is = rw (known, is) refl

-- a choice that begins with nothing in front
pub comes-first : {Source Seat : Type 0} (context : Context Source Seat) (given : List Given) (choice : List Given → Needing Settled)
    (step : Step) (found : List Target) → Comes context given (λ all. made (in_front []) (choice all)) step found
    → Comes context given choice step found
comes-first context given choice step found comes = (λ all extends. nothing-in-front (choice all) ∙ comes.0 all extends, comes.1)

-- the choice for a request to a domain
pub domain-is : (request : Request) (caps : Caps) (words : List ℕ) (all : List Given) (name : List (List ℕ)) (port : Option ℕ)
    (named : Option Spoken)
    → to_host request caps words all (host.Domain name) port named
    ≡ domain_choice (is_secure request) caps words name all port named (offered caps (transport_of request))
domain-is request caps words all name (Some port) named = refl
domain-is request caps words all name None (Some named) = refl
domain-is request caps words all name None None = refl

-- ---- a question is asked whatever was found before

module _ (caps : Caps) (words : List ℕ) (name : List (List ℕ)) (all : List Given) (question : Question) where
  module _ (fallback : Result Transport Reason) (position : Position) (found other : List Target) where
    ended-by : (offers : List Offer) (any denied : Bool) → position.is_listed || list_any is_listed offers ≡ any
        → position.is_denied || list_any is_denied offers ≡ denied
        → ended caps name all fallback position found offers ≡ Err question
        → ended caps name all fallback position other offers ≡ Err question
    ended-by offers true denied e e' is =
        let never : Ok (Ok (found ++ flat_map offered_targets offers)) ≡ Err question = rw e at is in
        absurd cc
    ended-by offers false true e e' is =
        let never : Ok (Err NotOffered) ≡ Err question = rw (e, e') at is in
        absurd cc
    ended-by offers false false e e' is =
        let here : made (in_front found) (to_domain caps all name fallback) ≡ Err question = rw (e, e') at is in
        rw (e, e') (ap (made (in_front other)) (made-asks (in_front found) (to_domain caps all name fallback) question here))

    ended-each : (n : Needing (List Offer)) → after (ended caps name all fallback position found) n ≡ Err question
        → after (ended caps name all fallback position other) n ≡ Err question
    ended-each (Ok offers) is =
        ended-by offers (position.is_listed || list_any is_listed offers) (position.is_denied || list_any is_denied offers) refl refl is
    ended-each (Err asked) is = is

    position-asks : (services : List Service) → position_left caps words name all services fallback position found ≡ Err question
        → position_left caps words name all services fallback position other ≡ Err question
    position-asks services is =
        ended-each (offers_along all (kinds_of caps.families) caps.is_fixed words (drop position.service services) position.word) is

  servers-each : (services : List Service) (fallback : Result Transport Reason) (position : Position) (found other : List Target)
      (n : Needing (List Target))
      → after (λ more. position_left caps words name all services fallback position (found ++ more)) n ≡ Err question
      → after (λ more. position_left caps words name all services fallback position (other ++ more)) n ≡ Err question
  servers-each services fallback position found other (Ok more) is =
      position-asks fallback position (found ++ more) (other ++ more) services is
  servers-each services fallback position found other (Err asked) is = is

  pub stage-asks : (secure : Bool) (stage : Stage) (found other : List Target)
      → stage_left secure caps words name stage found all ≡ Err question → stage_left secure caps words name stage other all ≡ Err question
  stage-asks secure Rules found other is =
      ap (made (in_front other)) (made-asks (in_front found) (by_naptr secure caps words all name) question is)
  stage-asks secure (Along candidates (ServiceRecords position)) found other is =
      position-asks (arc_value candidates).fallback position found other (arc_value candidates).services.items is
  stage-asks secure (Along candidates (Server listing cursor position)) found other is =
      servers-each (arc_value candidates).services.items (arc_value candidates).fallback position found other
      (listing_left caps all (arc_value listing) cursor) is
  stage-asks secure (Domain transport port from) found other is =
      ap (made (λ more. Ok (other ++ more)))
      (made-asks (λ more. Ok (found ++ more)) (kinds_left caps all transport port name from) question is)
