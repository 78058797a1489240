-- What becomes of the requests that waited for one reply.
use Rattle.std.specs.Prelude.{◌≡◌, ◌≢◌, ℕ, true, false, List, [], ◌∷◌, ◌++◌}
use Rattle.dns_answers.specs.Values.{AnswerValue}
use Rattle.dns_queries.specs.declared.incoming.Ending.{Ending}
use Rattle.dns_queries.specs.declared.incoming.Ending.TheVariants.{Answered, Faulty}
use Rattle.dns_message.specs.declared.question.Question.{Question}
use Rattle.sip_selection.specs.Choice.{need}
use Rattle.sip_selection.specs.Selections.{given_too, now_of}
use Rattle.sip_resolver.specs.Outcomes.{Ended}
use Rattle.sip_resolver.specs.Requests.{RequestsView, requests_of, waiting_for, waiting_without}
use Rattle.sip_resolver.specs.Tasks.{TaskView, WaitingView, sought_of}
use Rattle.sip_resolver.specs.declared.outcome.Outcome.{Outcome}

-- Requests that waited, the ones of them that go on, and those that ended, each in the order in
-- which they came to wait.
pub data Settled (goes : TaskView → TaskView → Type 0) (kind : Outcome → Type 0)
    : List WaitingView → List TaskView → List Ended → Type 0 where
  none : Settled goes kind [] [] []
  goes_on : (waiting : WaitingView) (task : TaskView) (before : List WaitingView)
      (ready : List TaskView) (ended : List Ended) → Settled goes kind before ready ended
      → goes waiting.task task
      → Settled goes kind (before ++ waiting ∷ []) (ready ++ task ∷ []) ended
  ends : (waiting : WaitingView) (outcome : Outcome) (before : List WaitingView)
      (ready : List TaskView) (ended : List Ended) → Settled goes kind before ready ended
      → kind outcome → Settled goes kind (before ++ waiting ∷ []) ready
      (ended ++ record { sought = sought_of waiting.task; outcome = outcome } ∷ [])

-- all requests that wait for the reply to the question of this id go on or end so, and nothing else
-- changes
pub record SettlesAll (id : ℕ) (goes : TaskView → TaskView → Type 0) (kind : Outcome → Type 0)
    (old new : RequestsView) : Type 0 where
  pub ready : List TaskView
  pub ended : List Ended
  pub settled : Settled goes kind (waiting_for id old.waiting) ready ended
  pub new_is : new ≡ requests_of (old.ready ++ ready) old.held (waiting_without id old.waiting)
      (old.ended ++ ended) old.limit

-- ---- how a request goes on

-- a request that needs the answer to the question has this one now
abbrev pub GetsAnswer : Question → AnswerValue → TaskView → TaskView → Type 0
GetsAnswer question answer old new =
    now_of old.selection ≡ need question
    → new ≡ record old { selection = given_too old.selection question answer; cut = false }

-- a request needs no answer to this question, and is as it was
abbrev pub NeedsOther : Question → TaskView → TaskView → Type 0
NeedsOther question old new = (now_of old.selection ≢ need question) × (new ≡ old)

-- the question of a request goes over a stream next (RFC 2181 9)
abbrev pub GoesOverStream : TaskView → TaskView → Type 0
GoesOverStream old new = new ≡ record old { cut = true }

-- how a request goes on after a reply to this question
abbrev pub GoesByReply : Question → Ending → TaskView → TaskView → Type 0
GoesByReply question (Answered found) old new = GetsAnswer question found old new
GoesByReply question (Faulty refusal) old new = NeedsOther question old new
