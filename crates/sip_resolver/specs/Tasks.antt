-- What is so of a request on its way.
use Rattle.std.specs.Prelude.{◌≡◌, ℕ, Bool, List, Option, if◌then◌else◌}
use Rattle.std.specs.List.{All}
use Rattle.dns_message.specs.declared.question.Question.{Question}
use Rattle.answer_cache.specs.Seats.{SeatView}
use Rattle.sip_selection.specs.Choice.{Resolution, targets, refused, need}
use Rattle.sip_selection.specs.Selections.{SelectionValue, now_of}
use Rattle.sip_uri.specs.declared.host.Host.{Host}
use Rattle.sip_resolver.specs.Ends.{IsByChoice}
use Rattle.sip_resolver.specs.Outcomes.{Counts, IsLacking, IsOutcome, Sought}
use Rattle.sip_resolver.specs.declared.outcome.Outcome.TheVariants.{Targets, Refused, NoAnswer, NoServer, BadReply, Memory}
use Rattle.sip_resolver.specs.declared.transmit.DnsTransport.{DnsTransport}
use Rattle.sip_resolver.specs.declared.transmit.DnsTransport.TheVariants.{Datagram, Stream}
use Rattle.sip_resolver.specs.declared.task.Progress.{Progress}
use Rattle.sip_resolver.specs.declared.task.Progress.TheVariants.{Asks, Ended}

-- what contracts see of a request that is inside: its number, its choice over the answers that it
-- was given, whether the reply in a datagram to its question was cut, and the moment by which it
-- ends, if it has one
pub record TaskView : Type 0 where
  pub number : ℕ
  pub selection : SelectionValue
  pub cut : Bool
  pub until : Option ℕ

-- over what the question of a request goes: over a stream where the reply in a datagram was cut
-- (RFC 2181 9)
abbrev pub over_of : TaskView → DnsTransport
over_of task = if task.cut then Stream else Datagram

-- a request that waits for the reply to the question of this id
pub record WaitingView : Type 0 where
  pub id : ℕ
  pub task : TaskView

-- the request, as it was submitted
abbrev pub sought_of : TaskView → Sought
sought_of task = record {
  number = task.number;
  request = task.selection.request;
  caps = task.selection.caps;
  words = task.selection.words;
  until = task.until;
}

-- each answer that a request was given counts
abbrev pub IsCounted : (List ℕ → Type 0) → (ℕ → Type 0) → SeatView → TaskView → Type 0
IsCounted gives shows seat task = All (Counts gives shows seat) task.selection.given

-- the answer that a request needs was lacking
abbrev pub Lacks : (ℕ → Type 0) → SeatView → TaskView → Type 0
Lacks shows seat task =
    (question : Question) → now_of task.selection ≡ need question
    → IsLacking shows seat.seen question

-- how far a step leads after which this is known, of a request that asked for this host
abbrev pub Leaves : Resolution → Host → Progress → Type 0
Leaves resolution host Asks = (question : Question) × (resolution ≡ need question)
Leaves resolution host (Ended (Targets list)) =
    (resolution ≡ targets list.targets) × (list.certificate_host ≡ host)
Leaves resolution host (Ended (Refused reason)) = resolution ≡ refused reason
Leaves resolution host (Ended (NoAnswer question)) = ⊥
Leaves resolution host (Ended (NoServer question)) = ⊥
Leaves resolution host (Ended (BadReply question refusal)) = ⊥
Leaves resolution host (Ended Memory) = Unit {0}

-- how far it is after a step
abbrev pub Progresses : (List ℕ → Type 0) → (ℕ → Type 0) → SeatView → TaskView → Progress → Type 0
Progresses gives shows seat task Asks =
    IsCounted gives shows seat task × Lacks shows seat task
    × ((question : Question) × (now_of task.selection ≡ need question))
Progresses gives shows seat task (Ended outcome) =
    IsOutcome gives shows seat (sought_of task) outcome

-- where a step ends a request, the choice does, or want of memory
abbrev pub EndsByChoice : Progress → Type 0
EndsByChoice Asks = Unit {0}
EndsByChoice (Ended outcome) = IsByChoice outcome
