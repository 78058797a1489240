-- How the wait for a reply ends, and what becomes of a request that waited. No public clause cites
-- this module.
use Rattle.std.specs.Prelude.{◌≡◌, ◌≢◌, ⊤, ℕ, List, [], ◌∷◌, ◌++◌}
use Rattle.std.specs.Arc.{arc_value}
use Rattle.dns_answers.specs.Records.{kind_of}
use Rattle.dns_answers.specs.declared.refusal.ReplyRefusal.{ReplyRefusal}
use Rattle.dns_queries.specs.Events.{IsResent}
use Rattle.dns_queries.specs.Tickets.{Asking}
use Rattle.dns_message.specs.declared.question.Question.{Question}
use Rattle.answer_cache.specs.Seats.{SeatView}
use Rattle.sip_selection.specs.Choice.{need}
use Rattle.sip_selection.specs.Selections.{now_of}
use Rattle.sip_resolver.specs.Ends.{IsByClosing, IsByFault, IsBySilence, IsMemory}
use Rattle.sip_resolver.specs.Outcomes.{Counts, IsFaulty, IsOutcome}
use Rattle.sip_resolver.specs.Requests.{RequestsView}
use Rattle.sip_resolver.specs.Sends.{GivesUp, IsOverdue}
use Rattle.sip_resolver.specs.Settles.{GetsAnswer, GoesOverStream, NeedsOther}
use Rattle.sip_resolver.specs.Tasks.{IsCounted, TaskView, sought_of}
use Rattle.sip_resolver.specs.declared.outcome.Outcome.{Outcome}
use Rattle.sip_resolver.specs.declared.outcome.Outcome.TheVariants.{Targets, Refused, NoAnswer, NoServer, BadReply, Memory}
use Rattle.sip_resolver.specs.declared.waits.WaitOutcome.{WaitOutcome}
use Rattle.sip_resolver.specs.declared.waits.WaitOutcome.TheVariants.{Ready, Ended}
use Rattle.sip_resolver.specs.declared.waits.WaitEnd.{WaitEnd}
use Rattle.sip_resolver.specs.declared.waits.WaitEnd.TheVariants.{Answered, Faulty, Cut, GivenUp, Closed, NoMemory}

-- the answer counts, or the fault is one of octets that came in
abbrev pub IsKnown : (List ℕ → Type 0) → (ℕ → Type 0) → SeatView → WaitEnd → Type 0
IsKnown gives shows seat (Answered question answer) =
    Counts gives shows seat (record { question = question.now; answer = arc_value answer.now })
IsKnown gives shows seat (Faulty question refusal) = IsFaulty gives question.now refusal
IsKnown gives shows seat Cut = ⊤
IsKnown gives shows seat (GivenUp question) = ⊤
IsKnown gives shows seat (Closed question) = ⊤
IsKnown gives shows seat NoMemory = ⊤

-- each answer of a request that can go on counts, and the outcome of one that ended is so
abbrev pub Fits : (List ℕ → Type 0) → (ℕ → Type 0) → SeatView → TaskView → WaitOutcome → Type 0
Fits gives shows seat task Ready = IsCounted gives shows seat task
Fits gives shows seat task (Ended outcome) = IsOutcome gives shows seat (sought_of task) outcome

-- It ended by this fault of the reply to the question that it needed, or for want of memory. Or it
-- needed no such question, and goes on.
abbrev pub IsFailed : TaskView → Question → ReplyRefusal → WaitOutcome → Type 0
IsFailed task question refusal Ready = now_of task.selection ≢ need question
IsFailed task question refusal (Ended (Targets list)) = ⊥
IsFailed task question refusal (Ended (Refused reason)) = ⊥
IsFailed task question refusal (Ended (NoAnswer other)) = ⊥
IsFailed task question refusal (Ended (NoServer other)) = ⊥
IsFailed task question refusal (Ended (BadReply other fault)) =
    (now_of task.selection ≡ need question) × (other ≡ question) × (fault ≡ refusal)
IsFailed task question refusal (Ended Memory) = ⊤

-- It ended for want of the answer to this question, which it needed, or for want of memory. Or it
-- needed no such question, and goes on.
abbrev pub IsGivenUp : TaskView → Question → WaitOutcome → Type 0
IsGivenUp task question Ready = now_of task.selection ≢ need question
IsGivenUp task question (Ended (Targets list)) = ⊥
IsGivenUp task question (Ended (Refused reason)) = ⊥
IsGivenUp task question (Ended (NoAnswer other)) =
    (now_of task.selection ≡ need question) × (other ≡ question)
IsGivenUp task question (Ended (NoServer other)) = ⊥
IsGivenUp task question (Ended (BadReply other fault)) = ⊥
IsGivenUp task question (Ended Memory) = ⊤

-- It ended because no server takes this question, which it needed, or for want of memory. Or it
-- needed no such question, and goes on.
abbrev pub IsClosed : TaskView → Question → WaitOutcome → Type 0
IsClosed task question Ready = now_of task.selection ≢ need question
IsClosed task question (Ended (Targets list)) = ⊥
IsClosed task question (Ended (Refused reason)) = ⊥
IsClosed task question (Ended (NoAnswer other)) = ⊥
IsClosed task question (Ended (NoServer other)) =
    (now_of task.selection ≡ need question) × (other ≡ question)
IsClosed task question (Ended (BadReply other fault)) = ⊥
IsClosed task question (Ended Memory) = ⊤

-- how a request may end as the wait ends so: where the reply was cut, none does
abbrev pub MayEnd : WaitEnd → Outcome → Type 0
MayEnd (Answered question answer) outcome = IsMemory outcome
MayEnd (Faulty question refusal) outcome = IsByFault question.now refusal outcome
MayEnd Cut outcome = ⊥
MayEnd (GivenUp question) outcome = IsBySilence question.now outcome
MayEnd (Closed question) outcome = IsByClosing question.now outcome
MayEnd NoMemory outcome = IsMemory outcome

-- how a request may go on as the wait ends so
abbrev pub MayGoOn : WaitEnd → TaskView → TaskView → Type 0
MayGoOn (Answered question answer) old new =
    kind_of (arc_value answer.now).records ≡ question.now.kind
    → GetsAnswer question.now (arc_value answer.now) old new
MayGoOn (Faulty question refusal) old new = NeedsOther question.now old new
MayGoOn Cut old new = GoesOverStream old new
MayGoOn (GivenUp question) old new = NeedsOther question.now old new
MayGoOn (Closed question) old new = NeedsOther question.now old new
MayGoOn NoMemory old new = ⊥

abbrev pub GoesAs : WaitEnd → TaskView → TaskView → WaitOutcome → Type 0
GoesAs end old new Ready = MayGoOn end old new
GoesAs end old new (Ended outcome) = ⊤

abbrev pub EndsAs : WaitEnd → WaitOutcome → Type 0
EndsAs end Ready = ⊤
EndsAs end (Ended outcome) = MayEnd end outcome

-- A request that was taken out of those that wait is put back: it goes on, or it ended.
pub data SettlesOne (goes : TaskView → TaskView → Type 0) (kind : Outcome → Type 0)
    (waited : TaskView) (old new : RequestsView) : Type 0 where
  goes_on : (task : TaskView) → goes waited task
      → new ≡ record old { ready = old.ready ++ task ∷ [] }
      → SettlesOne goes kind waited old new
  ends : (outcome : Outcome) → kind outcome
      → new ≡ record old {
        ended = old.ended ++ record { sought = sought_of waited; outcome = outcome } ∷ [];
      } → SettlesOne goes kind waited old new

-- some are given up, and then the question of this id is sent once more, as its deadline is over
pub record Resends (now sent id : ℕ) (old new : Asking) : Type 0 where
  pub middle : Asking
  pub gives_up : GivesUp now old middle
  pub over : IsOverdue now middle
  pub octets : List ℕ
  pub resent : IsResent middle new sent id octets
