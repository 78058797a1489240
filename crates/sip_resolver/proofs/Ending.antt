-- Requests that end, one after the other.
use Rattle.std.proofs.Common.{◌≡◌, ℕ, List, [], ◌∷◌, ◌++◌, refl, sym, ap, ◌∙◌, subst}
use Rattle.std.specs.List.{All, Contains}
use Rattle.std.proofs.lemmas.List.{append-nil, append_assoc}
use Rattle.std.proofs.lemmas.List.Elements.{All-append, All-cons, All-head, All-nil}
use Rattle.dns_answers.specs.declared.refusal.ReplyRefusal.{ReplyRefusal}
use Rattle.dns_queries.specs.Tickets.{Ticket}
use Rattle.dns_queries.specs.declared.schedule.Schedule.{Schedule}
use Rattle.dns_message.specs.declared.question.Question.{Question}
use Rattle.sip_resolver.specs.Ends.{EndsMore, IsByChoice, IsByClosing, IsByFault, IsBySilence}
use Rattle.sip_resolver.specs.Outcomes.{Ended}
use Rattle.sip_resolver.specs.Requests.{IsWithoutHeld, IsWithoutReady, RequestsView}
use Rattle.sip_resolver.specs.Sends.{IsInTime, IsUnanswered}
use Rattle.sip_resolver.specs.Tasks.{EndsByChoice, Leaves, TaskView}
use Rattle.sip_uri.specs.declared.host.Host.{Host}
use Rattle.sip_resolver.specs.Waits.{IsClosed, IsFailed, IsGivenUp}
use Rattle.sip_resolver.specs.declared.outcome.Outcome.{Outcome}
use Rattle.sip_resolver.specs.declared.outcome.Outcome.TheVariants.{Targets, Refused, NoAnswer, NoServer, BadReply, Memory}
use Rattle.sip_resolver.specs.declared.task.Progress.{Progress}
use Rattle.sip_resolver.specs.declared.task.Progress.TheVariants as progress
use Rattle.sip_resolver.specs.declared.waits.WaitOutcome.TheVariants as wait_outcomes
use Rattle.sip_selection.specs.Choice.{Resolution}

module _ (kind : Outcome → Type 0) where
  abbrev of-kind : Ended → Type 0
  of-kind ended = kind ended.outcome

  pub ends-not : (ended : List Ended) → EndsMore kind ended ended
  ends-not ended = record { more = []; after = sym (append-nil ended); are = All-nil of-kind }

  pub ends-one : (old : List Ended) (ended : Ended) → kind ended.outcome → EndsMore kind old (old ++ ended ∷ [])
  ends-one old ended is = record { more = ended ∷ []; after = refl; are = All-cons of-kind ended [] is (All-nil of-kind) }

  pub ends-through : (old middle new : List Ended) → EndsMore kind old middle → EndsMore kind middle new → EndsMore kind old new
  ends-through old middle new front back = record {
    more = front.more ++ back.more;
    after = back.after ∙ ap (λ l. l ++ back.more) front.after ∙ append_assoc old front.more back.more;
    are = All-append of-kind front.more back.more front.are back.are;
  }

  -- after one was taken out that did not end
  pub ends-ready : (first new : List Ended) (old middle : RequestsView) (task : TaskView) → EndsMore kind first old.ended
      → IsWithoutReady task old middle → EndsMore kind middle.ended new → EndsMore kind first new
  ends-ready first new old middle task front out back =
      ends-through first old.ended new front
      (subst (λ l. EndsMore kind l new) (ap (λ (it : RequestsView). it.ended) out.others) back)

  pub ends-held : (first new : List Ended) (old middle : RequestsView) (task : TaskView) → EndsMore kind first old.ended
      → IsWithoutHeld task old middle → EndsMore kind middle.ended new → EndsMore kind first new
  ends-held first new old middle task front out back =
      ends-through first old.ended new front
      (subst (λ l. EndsMore kind l new) (ap (λ (it : RequestsView). it.ended) out.others) back)

-- what is of one kind is of another
pub ends-as : (one other : Outcome → Type 0) → ((outcome : Outcome) → one outcome → other outcome) → (old new : List Ended)
    → EndsMore one old new → EndsMore other old new
ends-as one other is old new ends = record {
  more = ends.more;
  after = ends.after;
  are = λ k d small. is _ (ends.are k d small);
}

-- where no outcome is of the kind, none ends
module _ (kind : Outcome → Type 0) (no : (outcome : Outcome) → kind outcome → ⊥) where
  none-of : (old new more : List Ended) → All (of-kind kind) more → new ≡ old ++ more → new ≡ old
  none-of old new [] are after = after ∙ append-nil old
  none-of old new (first ∷ more) are after = absurd (no first.outcome (All-head (of-kind kind) first more are))

  pub ends-none : (old new : List Ended) → EndsMore kind old new → new ≡ old
  ends-none old new ends = none-of old new ends.more ends.are ends.after

-- ---- the kinds

pub failed-ends : (task : TaskView) (question : Question) (refusal : ReplyRefusal) (outcome : Outcome)
    → IsFailed task question refusal (wait_outcomes.Ended outcome) → IsByFault question refusal outcome
failed-ends task question refusal (Targets list) it = absurd it
failed-ends task question refusal (Refused reason) it = absurd it
failed-ends task question refusal (NoAnswer other) it = absurd it
failed-ends task question refusal (NoServer other) it = absurd it
failed-ends task question refusal (BadReply other fault) it = (it.1, it.2)
failed-ends task question refusal Memory it = tt

pub given-up-ends : (task : TaskView) (question : Question) (outcome : Outcome) → IsGivenUp task question (wait_outcomes.Ended outcome)
    → IsBySilence question outcome
given-up-ends task question (Targets list) it = absurd it
given-up-ends task question (Refused reason) it = absurd it
given-up-ends task question (NoAnswer other) it = it.1
given-up-ends task question (NoServer other) it = absurd it
given-up-ends task question (BadReply other fault) it = absurd it
given-up-ends task question Memory it = tt

pub closed-ends : (task : TaskView) (question : Question) (outcome : Outcome) → IsClosed task question (wait_outcomes.Ended outcome)
    → IsByClosing question outcome
closed-ends task question (Targets list) it = absurd it
closed-ends task question (Refused reason) it = absurd it
closed-ends task question (NoAnswer other) it = absurd it
closed-ends task question (NoServer other) it = it.1
closed-ends task question (BadReply other fault) it = absurd it
closed-ends task question Memory it = tt

pub choice-ends : (resolution : Resolution) (host : Host) (it : Progress) → Leaves resolution host it → EndsByChoice it
choice-ends resolution host progress.Asks leaves = tt
choice-ends resolution host (progress.Ended (Targets list)) leaves = tt
choice-ends resolution host (progress.Ended (Refused reason)) leaves = tt
choice-ends resolution host (progress.Ended (NoAnswer question)) leaves = absurd leaves
choice-ends resolution host (progress.Ended (NoServer question)) leaves = absurd leaves
choice-ends resolution host (progress.Ended (BadReply question refusal)) leaves = absurd leaves
choice-ends resolution host (progress.Ended Memory) leaves = tt

module _ (schedule : Schedule) (tickets : List Ticket) (now : ℕ) where
  pub choice-in-time : (outcome : Outcome) → IsByChoice outcome → IsInTime schedule tickets now outcome
  choice-in-time (Targets list) it = tt
  choice-in-time (Refused reason) it = tt
  choice-in-time (NoAnswer question) it = absurd it
  choice-in-time (NoServer question) it = absurd it
  choice-in-time (BadReply question refusal) it = absurd it
  choice-in-time Memory it = tt

  pub silence-in-time : (question : Question) → IsUnanswered schedule tickets now question → (outcome : Outcome)
      → IsBySilence question outcome → IsInTime schedule tickets now outcome
  silence-in-time question in-vain (Targets list) it = absurd it
  silence-in-time question in-vain (Refused reason) it = absurd it
  silence-in-time question in-vain (NoAnswer other) it = rw it in-vain
  silence-in-time question in-vain (NoServer other) it = absurd it
  silence-in-time question in-vain (BadReply other fault) it = absurd it
  silence-in-time question in-vain Memory it = tt

-- what is so of some tickets is so of more
pub in-time-of : (schedule : Schedule) (few many : List Ticket) (now : ℕ) → ((ticket : Ticket) → Contains few ticket → Contains many ticket)
    → (outcome : Outcome) → IsInTime schedule few now outcome → IsInTime schedule many now outcome
in-time-of schedule few many now more (Targets list) it = tt
in-time-of schedule few many now more (Refused reason) it = tt
in-time-of schedule few many now more (NoAnswer question) it =
    record { ticket = it.ticket; stands = more it.ticket it.stands; in_vain = it.in_vain; of_it = it.of_it }
in-time-of schedule few many now more (NoServer question) it = absurd it
in-time-of schedule few many now more (BadReply question refusal) it = absurd it
in-time-of schedule few many now more Memory it = tt
