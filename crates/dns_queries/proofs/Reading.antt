-- What octets mean.
use Rattle.std.proofs.Common.{◌≡◌, ℕ, ◌<◌, ◌≤◌, List, length, map, take, Some, None, Result, Ok, Err, OnErr, refl, ap, ◌∙◌, inl, inr, eq-eqb}
use Rattle.std.proofs.lemmas.Bool.{cases_lt}
use Rattle.dns_answers.specs.Answers.{answer}
use Rattle.dns_answers.specs.Replies.{reply_refusal}
use Rattle.dns_message.specs.Messages.{Spells}
use Rattle.dns_message.specs.declared.message.Message.{Message}
use Rattle.dns_message.specs.declared.question.Question.{Question}
use Rattle.pending_list.specs.Pending.{IsTakenOut, Pending}
use Rattle.pending_list.specs.declared.entry.Entry.{Entry}
use Rattle.dns_queries.proofs.Listing.{mapped-out, taken}
use Rattle.dns_message.specs.Messages.{Begins}
use Rattle.dns_queries.specs.Events.{closed, EndsBy, IsNoReply, MayWant, Means, Tells}
use Rattle.dns_queries.specs.Listed.{Finds, asking_of, ticket_in}
use Rattle.dns_queries.specs.Tickets.{IsAsking, Sent}
use Rattle.dns_queries.specs.Tickets as tickets
use Rattle.dns_queries.specs.declared.incoming.Ending.{Ending}
use Rattle.dns_queries.specs.declared.incoming.Ending.TheVariants.{Answered}
use Rattle.dns_queries.specs.declared.incoming.Incoming.TheVariants.{Ended, Ignored}
use Rattle.dns_queries.specs.declared.incoming.Why.{Why}
use Rattle.dns_queries.specs.declared.incoming.Why.TheVariants.{NotSpelled, UnknownId, NotReply, OtherQuestion}
use Rattle.pending_list.specs.Ids.{Id}
use Rattle.dns_queries.specs.declared.schedule.Schedule.{Schedule}

pub short-by : (octets : List ℕ) → (65535 < length octets → ⊥) → length octets ≤ 65535
short-by octets long =
    elim (cases_lt 65535 (length octets)) [
      | inl over ↦ absurd (long over)
      | inr short ↦ short
    ]

pub begins-with : (octets : List ℕ) (it : Message) → ((end : ℕ) × (end ≤ length octets) × Spells (take end octets) it)
    → (65535 < length octets → ⊥) → Begins octets it
begins-with octets it found long = record { short = short-by octets long; end = found.0; spelled = found.2 }

pub on-err : {T E : Type 0} (result : Result T E) (P : Type 0) → P → OnErr result P
on-err (Ok value) P it = tt
on-err (Err refusal) P it = it

module _ (schedule : Schedule) (list : Pending Sent) (octets : List ℕ) (message : Message) (begins : Begins octets message) (at : Id)
    (found : Finds list.entries message.header.id at) where
  open-ticket : tickets.ticket_of message.header.id (map ticket_in list.entries) ≡ Some (ticket_in found.entry)
  open-ticket = taken list message.header.id found.entry found.first

  pub ignored-is : (why : Why) → IsNoReply found.entry.item.question message why → Means (asking_of schedule list) octets (Ignored why)
  ignored-is NotSpelled it = absurd it
  ignored-is UnknownId it = absurd it
  ignored-is NotReply it = record {
    message = message;
    begins = begins;
    ticket = ticket_in found.entry;
    is_open = open-ticket;
    says = it;
  }
  ignored-is OtherQuestion it = record {
    message = message;
    begins = begins;
    ticket = ticket_in found.entry;
    is_open = open-ticket;
    says = it;
  }

  pub ended-is : (id : ℕ) (question : Question) (ending : Ending) → id ≡ found.entry.item.id → question ≡ found.entry.item.question
      → EndsBy found.entry.item.question message ending → Tells (asking_of schedule list) octets (Ended id question ending)
  ended-is id question ending id-is question-is ends = record {
    message = message;
    begins = begins;
    ticket = ticket_in found.entry;
    is_open = open-ticket;
    says = (id-is, question-is, ends);
  }

  pub answered-is : reply_refusal found.entry.item.question message ≡ None → MayWant (asking_of schedule list) octets
  answered-is fine = (
    begins.short,
    inr (
      answer found.entry.item.question message,
      found.entry.item.id,
      found.entry.item.question,
      ended-is found.entry.item.id found.entry.item.question (Answered (answer found.entry.item.question message)) refl refl (fine, refl),
    ),
  )

-- the ticket of an id is taken out
pub left-is : (schedule : Schedule) (list new : Pending Sent) (it : IsAsking (asking_of schedule list)) (entry : Entry Sent)
    → IsTakenOut list.entries entry new.entries → new ≡ record list { entries = new.entries }
    → asking_of schedule new ≡ closed entry.item.id (asking_of schedule list)
left-is schedule list new it entry out rest =
    ap (asking_of schedule) rest
    ∙ (rw (mapped-out entry.item.id list.entries entry new.entries out (eq-eqb entry.item.id entry.item.id refl)
    (it.single entry.item.id)) refl)
