-- Which targets are tried, in which order, and what each try tells (RFC 3263 4.3).
use Rattle.std.specs.Prelude.{◌≡◌, ◌≢◌, ◌==◌, ◌&&◌, ℕ, Bool, true, false, not, List, [], ◌∷◌, map, Option, Some, None, if◌then◌else◌}
use Rattle.std.specs.List.{list_all, list_any}
use Rattle.std.specs.Option.{option_or}
use Rattle.sip_options.specs.declared.transport.Transport.{Transport as Over}
use Rattle.sip_options.specs.declared.transport.Transport.TheVariants as over
use Rattle.sip_ping.specs.declared.answer.Answer.{Answer}
use Rattle.sip_ping.specs.declared.answer.Answer.TheVariants.{Replied, Silent, Refused, Unreadable}
use Rattle.sip_ping.specs.declared.answer.Reply.{Reply}
use Rattle.sip_selection.specs.Trials.{progress_by, tried_by}
use Rattle.sip_selection.specs.declared.failover.Event.{Event}
use Rattle.sip_selection.specs.declared.failover.Event.TheVariants.{Failed, Responded}
use Rattle.sip_selection.specs.declared.failover.Failure.TheVariants as failure
use Rattle.sip_selection.specs.declared.failover.Progress.TheVariants.{Trying}
use Rattle.sip_selection.specs.declared.target.Target.{Target}
use Rattle.sip_uri.specs.declared.transport.Transport.{Transport}
use Rattle.sip_uri.specs.declared.transport.Transport.TheVariants.{Udp, Tcp, Sctp, Tls}
use Rattle.sip_tries.specs.declared.found.Found.{Found}
use Rattle.sip_tries.specs.declared.found.Found.TheVariants.{Asked, Untried}
use Rattle.sip_tries.specs.declared.found.TargetTry.{TargetTry}
use Rattle.sip_tries.specs.declared.tries.Extent.{Extent}
use Rattle.sip_tries.specs.declared.tries.Extent.TheVariants.{UntilThere, All as EachOne}

-- ---- what a try tells

-- a final reply: after a 503 the next target is tried (RFC 3263 4.3), any other is a response
abbrev pub event_of_reply : Reply → Event
event_of_reply reply = if reply.status == 503 then Failed failure.Status503 else Responded

-- an answer: silence is a timeout, and what is no message an error of the transport
abbrev pub event_of_answer : Answer → Event
event_of_answer (Replied reply) = event_of_reply reply
event_of_answer Silent = Failed failure.Timeout
event_of_answer Refused = Failed failure.Transport
event_of_answer Unreadable = Failed failure.Transport

-- what was found at a target: to one that can't be asked nothing is sent
abbrev pub event_of : Found → Event
event_of (Asked answer) = event_of_answer answer
event_of Untried = Failed failure.Transport

-- an event is a response
abbrev pub is_response : Event → Bool
is_response (Failed failure) = false
is_response Responded = true

-- the server is there
abbrev pub is_there : Found → Bool
is_there found = is_response (event_of found)

-- the server was asked, and is not there
abbrev pub is_missing : Found → Bool
is_missing (Asked answer) = not (is_there (Asked answer))
is_missing Untried = false

-- ---- which targets are tried

-- the targets of tries
abbrev pub targets_of : List TargetTry → List Target
targets_of tries = map (λ it. it.target) tries

-- what tries tell, in their order
abbrev pub events_of : List TargetTry → List Event
events_of tries = map (λ it. event_of it.found) tries

-- Targets are tried in their order until one responds, or none is left: those of RFC 3263 4.3, by
-- the events of the tries themselves.
pub record AreTriedUntilThere (targets : List Target) (tries : List TargetTry) : Type 0 where
  pub in_turn : targets_of tries ≡ tried_by targets (events_of tries)
  pub ended : progress_by targets (events_of tries) ≢ Trying

-- targets are tried so far
abbrev pub AreTried : Extent → List Target → List TargetTry → Type 0
AreTried UntilThere targets tries = AreTriedUntilThere targets tries
AreTried EachOne targets tries = targets_of tries ≡ targets

-- ---- what was asked

-- the transport that a request goes over, if there is one: there is neither TLS nor SCTP
abbrev pub over_of : Transport → Option Over
over_of Udp = Some over.Udp
over_of Tcp = Some over.Tcp
over_of Sctp = None
over_of Tls = None

-- what was found at a target is what the server answered there, or nothing can be asked there
abbrev pub IsFound : {P : Type 0} → (P → Over → Target → Answer → P → Type 0) → P → Target → Found
    → P → Type 0
IsFound asks before target (Asked answer) after =
    (by : Over) × (over_of target.transport ≡ Some by) × asks before by target answer after
IsFound asks before target Untried after = (over_of target.transport ≡ None) × (after ≡ before)

-- a try says what was found at its target
abbrev pub IsAsked : {P : Type 0} → (P → Over → Target → Answer → P → Type 0) → P → TargetTry → P
    → Type 0
IsAsked asks before it after = IsFound asks before it.target it.found after

-- each try says what was found at its target, after those before it; nothing else was asked
abbrev pub AreAsked : {P : Type 0} → (P → Over → Target → Answer → P → Type 0) → P → List TargetTry
    → P → Type 0
AreAsked asks before [] after = after ≡ before
AreAsked {P} asks before (it ∷ tries) after =
    (between : P) × IsAsked asks before it between × AreAsked asks between tries after

-- ---- how they went

-- a server is there; and where each target is tried, none of those that were asked is missing
abbrev pub succeeded : Extent → List TargetTry → Bool
succeeded UntilThere tries = list_any (λ it. is_there it.found) tries
succeeded EachOne tries =
    list_any (λ it. is_there it.found) tries && list_all (λ it. not (is_missing it.found)) tries

-- the milliseconds after which a final reply was there that is no 503
abbrev pub time_of_reply : Reply → Option ℕ
time_of_reply reply = if reply.status == 503 then None else Some reply.after

-- the milliseconds after which the final reply was there of a server that is there
abbrev pub time_of : Found → Option ℕ
time_of (Asked (Replied reply)) = time_of_reply reply
time_of (Asked Silent) = None
time_of (Asked Refused) = None
time_of (Asked Unreadable) = None
time_of Untried = None

-- those of the first server that is there
abbrev pub first_time : List TargetTry → Option ℕ
first_time [] = None
first_time (it ∷ tries) = option_or (time_of it.found) (first_time tries)
