-- How far a choice has come, and what is left of it: the same as of the whole choice, once what was
-- found so far stands in front.
use Rattle.std.specs.Prelude.{◌≡◌, ⊤, ℕ, ◌+◌, ◌*◌, ◌≤◌, Bool, true, false, ◌||◌, List, [], ◌∷◌, ◌++◌, length, drop, Option, Some, None, slice_get, Result, Ok, Err, if◌then◌else◌}
use Rattle.std.specs.Arc.{arc_value}
use Rattle.std.specs.List.{flat_map, list_any}
use Rattle.std.specs.Option.{option_map_or}
use Rattle.srv_choice.specs.Draws.{words_of}
use Rattle.dns_answers.specs.Values.{AnswerValue}
use Rattle.dns_message.specs.declared.question.Question.{Question}
use Rattle.dns_message.specs.declared.srv.SrvRecord.{SrvRecord}
use Rattle.sip_uri.specs.declared.host.Host.{Host}
use Rattle.sip_uri.specs.declared.host.Host.TheVariants as host
use Rattle.sip_uri.specs.declared.transport.Spoken.{Spoken}
use Rattle.sip_uri.specs.declared.transport.Transport.{Transport}
use Rattle.srv_choice.specs.Outcomes.{is_root}
use Rattle.srv_choice.specs.declared.outcome.SrvOutcome.{SrvOutcome}
use Rattle.srv_choice.specs.declared.outcome.SrvOutcome.TheVariants.{Absent, Denied, Listed}
use Rattle.sip_selection.specs.Callers.{kinds_of}
use Rattle.sip_selection.specs.Choice.{Settled, to_domain, to_port, to_service, offered_default, by_naptr, discovered}
use Rattle.sip_selection.specs.Known.{Given, Needing, after, made, joined, answer_to, servers_in}
use Rattle.sip_selection.specs.Services.{Offer, is_listed, is_denied, offered_targets, next_word, kind_targets, index_targets, offers_along}
use Rattle.sip_selection.specs.declared.caps.Caps.{Caps}
use Rattle.sip_selection.specs.declared.reason.Reason.{Reason}
use Rattle.sip_selection.specs.declared.reason.Reason.TheVariants.{NotOffered}
use Rattle.sip_selection.specs.declared.stage.Context.{Context}
use Rattle.sip_selection.specs.declared.stage.Cursor.{Cursor}
use Rattle.sip_selection.specs.declared.stage.Candidates.{Candidates}
use Rattle.sip_selection.specs.declared.stage.ServiceStep.{ServiceStep}
use Rattle.sip_selection.specs.declared.stage.ServiceStep.TheVariants as service_step
use Rattle.sip_selection.specs.declared.stage.Listing.{Listing}
use Rattle.sip_selection.specs.declared.stage.ServiceStage.{ServiceStage}
use Rattle.sip_selection.specs.declared.stage.ServiceStage.TheVariants.{ServiceRecords, Server}
use Rattle.sip_selection.specs.declared.stage.Stage.{Stage}
use Rattle.sip_selection.specs.declared.stage.Stage.TheVariants.{Rules, Along, Domain}
use Rattle.sip_selection.specs.declared.stage.Step.{Step}
use Rattle.sip_selection.specs.declared.stage.Step.TheVariants.{Ask, Found, Refused}
use Rattle.sip_selection.specs.declared.stage.Position.{Position}
use Rattle.sip_selection.specs.declared.target.Target.{Target}
use Rattle.sip_selection.specs.declared.service.Service.{Service}

-- ---- answers

-- What is answered is answered so by all of these: they are those given, or have more.
abbrev pub Extends : List Given → List Given → Type 0
Extends given all = (question : Question) (answer : AnswerValue)
    → answer_to given question ≡ Ok answer → answer_to all question ≡ Ok answer

-- Where something is left of a list of targets from an index on: what was found is in front of what
-- is left from a later index on, whatever is answered further; and there, this question has no
-- answer. Or what was found is all.
abbrev pub Reaches : {Index : Type 0} → List Given → (List Given → Index → Needing (List Target))
    → Index
    → Option (Index × Question) → List Target → Type 0
Reaches given left from None found = (all : List Given) → Extends given all
    → left all from ≡ Ok found
Reaches given left from (Some stop) found =
    ((all : List Given) → Extends given all
    → left all from ≡ made (λ more. found ++ more) (left all stop.0))
    × (left given stop.0 ≡ Err stop.1)

-- ---- services, one after the other

abbrev pub start : Position
start = record { service = 0; word = 0; is_listed = false; is_denied = false }

-- after the next service, of which the SRV records say this
abbrev pub behind : Position → SrvOutcome → Position
behind position Absent = record position { service = position.service + 1 }
behind position Denied = record position { service = position.service + 1; is_denied = true }
behind position (Listed indexes next) = record position
    { service = position.service + 1; word = next; is_listed = true }

-- there are at most eight services
abbrev pub CandidatesFits : Candidates → Type 0
CandidatesFits candidates = length candidates.services.items ≤ 8

abbrev pub in_front : List Target → Settled → Settled
in_front found (Ok more) = Ok (found ++ more)
in_front found (Err reason) = Err reason

-- ---- addresses

module _ (caps : Caps) (all : List Given) where
  -- those of a name, from a kind on
  abbrev pub kinds_left : Transport → ℕ → List (List ℕ) → ℕ → Needing (List Target)
  kinds_left transport port name from =
      joined (kind_targets all (kinds_of caps.families) caps.is_fixed transport port name)
      (drop from (kinds_of caps.families))

  -- those of a server, from a kind on
  abbrev pub server_left : Transport → SrvRecord → ℕ → Needing (List Target)
  server_left transport server from =
      if is_root server.target then Ok [] else kinds_left transport server.port server.target from

  abbrev pub index_left : Transport → List SrvRecord → ℕ → ℕ → Needing (List Target)
  index_left transport servers index from =
      option_map_or (λ server. server_left transport server from) (slice_get servers index) (Ok [])

  -- those of the servers at these indexes, of the first from a kind on
  abbrev pub indexes_left : Transport → List SrvRecord → List ℕ → ℕ → Needing (List Target)
  indexes_left transport servers [] from = Ok []
  indexes_left transport servers (index ∷ indexes) from =
      after (λ here. made
      (λ others. here ++ others)
      (joined (index_targets all (kinds_of caps.families) caps.is_fixed transport servers) indexes))
      (index_left transport servers index from)

  -- those of the servers in an order, from a cursor on
  abbrev pub servers_left : Transport → List SrvRecord → List ℕ → Cursor → Needing (List Target)
  servers_left transport servers indexes cursor =
      indexes_left transport servers (drop cursor.server indexes) cursor.kind

  abbrev pub listing_left : Listing → Cursor → Needing (List Target)
  listing_left listing cursor =
      servers_left listing.transport
      (servers_in (arc_value listing.answer).records) listing.indexes cursor

-- before the first server
abbrev pub first_server : Cursor
first_server = record { server = 0; kind = 0 }

-- ---- services

module _ (caps : Caps) (name : List (List ℕ)) (all : List Given) where
  -- where all services are done
  abbrev pub ended : Result Transport Reason → Position → List Target → List Offer → Needing Settled
  ended fallback position found offers =
      if position.is_listed || list_any is_listed offers
      then Ok (Ok (found ++ flat_map offered_targets offers)) else
      (if position.is_denied || list_any is_denied offers then Ok (Err NotOffered)
      else made (in_front found) (to_domain caps all name fallback))

module _ (caps : Caps) (words : List ℕ) (name : List (List ℕ)) (all : List Given) where
  abbrev pub position_left : List Service → Result Transport Reason → Position → List Target
      → Needing Settled
  position_left services fallback position found =
      after (ended caps name all fallback position found)
      (offers_along all (kinds_of caps.families) caps.is_fixed words
      (drop position.service services)
      position.word)

  -- where the next service offers this
  abbrev pub offer_left : List Service → Result Transport Reason → Position → List Target
      → Needing Offer
      → Needing Settled
  offer_left services fallback position found offer =
      after (λ offer. after (ended caps name all fallback position found)
      (made (λ others. offer ∷ others)
      (offers_along all (kinds_of caps.families) caps.is_fixed words
      (drop (position.service + 1) services)
      (next_word position.word offer)))) offer

  -- where the addresses of the servers of a service come first
  abbrev pub servers_first : List Service → Result Transport Reason → Listing → Cursor → Position
      → List Target → Needing Settled
  servers_first services fallback listing cursor position found =
      after (λ more. position_left services fallback position (found ++ more))
      (listing_left caps all listing cursor)

  abbrev pub service_stage_left : List Service → Result Transport Reason → ServiceStage
      → List Target → Needing Settled
  service_stage_left services fallback (ServiceRecords position) found = position_left services
      fallback position found
  service_stage_left services fallback (Server listing cursor position) found =
      servers_first services fallback (arc_value listing) cursor position found

  abbrev pub service_step_left : List Service → Result Transport Reason → ServiceStep → List Target
      → Needing Settled
  service_step_left services fallback (service_step.Position position) found = position_left
      services fallback position found
  service_step_left services fallback (service_step.Stop service_stage question) found =
      service_stage_left services fallback service_stage found

abbrev pub position_of : ServiceStage → Position
position_of (ServiceRecords position) = position
position_of (Server listing cursor position) = position

-- enough words are left
abbrev pub ServiceStepFits : ServiceStep → Type 0
ServiceStepFits (service_step.Position position) = position.word ≤ 32 * position.service
ServiceStepFits (service_step.Stop service_stage question) = (position_of service_stage).word ≤ 32 *
    (position_of service_stage).service

-- a step that goes on does so at this service
abbrev pub GoesOnAt : ℕ → ServiceStep → Type 0
GoesOnAt service (service_step.Position position) = position.service ≡ service
GoesOnAt service (service_step.Stop service_stage question) = ⊤

-- a step that goes on is past this many services
abbrev pub IsPast : ℕ → ServiceStep → Type 0
IsPast count (service_step.Position position) = count ≤ position.service
IsPast count (service_step.Stop service_stage question) = ⊤

-- a question that is asked is the one that what is left needs first
abbrev pub ServiceStepAsks : {Source Seat : Type 0} → Context Source Seat → List Given
    → List Service → Result Transport Reason → ServiceStep → List Target → Type 0
ServiceStepAsks context given services fallback (service_step.Position position) found = ⊤
ServiceStepAsks context given services fallback (service_step.Stop service_stage question) found =
    service_stage_left context.caps.now (words_of context.words.now) context.name.now
    given services fallback service_stage found ≡ Err question

-- What is left after some targets is what is left after these of the step, among these services
-- and whatever was found before.
abbrev pub Walks : {Source Seat : Type 0} → Context Source Seat → List Given → List Service
    → (List Given → Result Transport Reason → List Target → Needing Settled) → ServiceStep
    → List Target → List Target → Type 0
Walks context given services left service_step before now =
    (fallback : Result Transport Reason) (front : List Target)
    → ((all : List Given) → Extends given all → left all fallback (front ++ before)
    ≡ service_step_left context.caps.now (words_of context.words.now) context.name.now all services
    fallback
    service_step
    (front ++ now))
    × ServiceStepAsks context given services fallback service_step (front ++ now)

-- ---- the whole choice

-- a step that asks nothing is what this says
abbrev pub Settles : Step → List Target → Needing Settled → Type 0
Settles (Ask question stage) found choice = ⊥
Settles Found found choice = choice ≡ Ok (Ok found)
Settles (Refused reason) found choice = choice ≡ Ok (Err reason)

-- a step asks a question
abbrev pub IsAsking : Step → Type 0
IsAsking (Ask question stage) = ⊤
IsAsking Found = ⊥
IsAsking (Refused reason) = ⊥

-- there are few services, and words enough
abbrev pub StageFits : Stage → Type 0
StageFits Rules = ⊤
StageFits (Along candidates service_stage) =
    CandidatesFits (arc_value candidates)
    × ((position_of service_stage).word ≤ 32 * (position_of service_stage).service)
StageFits (Domain transport port from) = ⊤

module _ (secure : Bool) (caps : Caps) (words : List ℕ) (name : List (List ℕ)) where
  abbrev pub stage_left : Stage → List Target → List Given → Needing Settled
  stage_left Rules found all = made (in_front found) (by_naptr secure caps words all name)
  stage_left (Along candidates service_stage) found all =
      service_stage_left caps words name all (arc_value candidates).services.items
      (arc_value candidates).fallback service_stage found
  stage_left (Domain transport port from) found all =
      made (λ more. Ok (found ++ more)) (kinds_left caps all transport port name from)

  abbrev pub step_left : Step → List Target → List Given → Needing Settled
  step_left (Ask question stage) found all = stage_left stage found all
  step_left Found found all = Ok (Ok found)
  step_left (Refused reason) found all = Ok (Err reason)

  -- a question that is asked is the one that what is left needs first
  abbrev pub Asks : List Given → Step → List Target → Type 0
  Asks given (Ask question stage) found = (stage_left stage found given ≡ Err question)
      × StageFits stage
  Asks given Found found = ⊤
  Asks given (Refused reason) found = ⊤

  -- a choice comes to this step, with these targets found
  abbrev pub ComesTo : List Given → (List Given → Needing Settled) → Step → List Target → Type 0
  ComesTo given choice step found =
      ((all : List Given) → Extends given all → choice all ≡ step_left step found all)
      × Asks given step found

  -- the choice for the domain, by the port that is written, the transport that is named and the one
  -- that is meant
  abbrev pub domain_choice : List Given → Option ℕ → Option Spoken → Result Transport Reason
      → Needing Settled
  domain_choice all (Some port) named transport = to_port caps all name port transport
  domain_choice all None (Some named) transport = to_service caps words all name transport
  domain_choice all None None transport = discovered secure caps words all name
      (offered_default secure caps)

-- the choice for a domain comes to this step with these targets
abbrev pub Comes : {Source Seat : Type 0} → Context Source Seat → List Given
    → (List Given → Needing Settled) → Step → List Target → Type 0
Comes context given = ComesTo context.secure context.caps.now (words_of context.words.now)
    context.name.now
    given

-- The same, whatever was found before: what is left after some targets comes to this step with
-- these.
abbrev pub Goes : {Source Seat : Type 0} → Context Source Seat → List Given
    → (List Target → List Given → Needing Settled) → Step → List Target → List Target → Type 0
Goes context given left step before now = (front : List Target)
    → Comes context given (left (front ++ before)) step (front ++ now)

-- the name whose services and addresses are needed; an address has none
abbrev pub name_of : Host → List (List ℕ)
name_of (host.V4 octets) = []
name_of (host.V6 octets) = []
name_of (host.Domain name) = name
