-- What happens to the questions that were sent. Each event tells what becomes of the tickets, and
-- what is answered to it.
use Rattle.std.specs.Prelude.{◌≡◌, ℕ, ◌+◌, ◌-◌, ◌^◌, ◌<◌, ◌≤◌, ◌⊎◌, List, ◌∷◌, length, Option, Some, None, IsSome, Result, Ok, Err, ⊤}
use Rattle.std.specs.Borrow.{Bor}
use Rattle.std.specs.List.{All}
use Rattle.dns_answers.specs.Answers.{answer}
use Rattle.dns_answers.specs.Replies.{reply_refusal}
use Rattle.dns_answers.specs.Values.{AnswerValue}
use Rattle.dns_answers.specs.declared.refusal.ReplyRefusal.{ReplyRefusal}
use Rattle.dns_answers.specs.declared.refusal.ReplyRefusal.TheVariants as reply
use Rattle.dns_message.specs.Offsets.{NamedAt}
use Rattle.dns_message.specs.Written.{plain, query_of}
use Rattle.dns_message.specs.declared.message.Message.{Message}
use Rattle.dns_message.specs.declared.question.Question.{Question}
use Rattle.dns_message.specs.Messages.{Begins}
use Rattle.dns_queries.specs.Tickets.{Asking, Sent, Ticket, ticket_of, waiting_too, without}
use Rattle.dns_queries.specs.declared.incoming.Due.{Due}
use Rattle.dns_queries.specs.declared.incoming.Due.TheVariants.{Resend, GaveUp}
use Rattle.dns_queries.specs.declared.incoming.Ending.{Ending}
use Rattle.dns_queries.specs.declared.incoming.Ending.TheVariants.{Answered, Faulty}
use Rattle.dns_queries.specs.declared.incoming.Incoming.{Incoming}
use Rattle.dns_queries.specs.declared.incoming.Incoming.TheVariants.{Ended, Ignored}
use Rattle.dns_queries.specs.declared.incoming.Why.{Why}
use Rattle.dns_queries.specs.declared.incoming.Why.TheVariants.{NotSpelled, UnknownId, NotReply, OtherQuestion}
use Rattle.dns_queries.specs.declared.refusal.AskRefusal.{AskRefusal}
use Rattle.dns_queries.specs.declared.refusal.AskRefusal.TheVariants.{IdTaken, Full, Spent, Memory}
use Rattle.dns_queries.specs.declared.schedule.Schedule.{Schedule}

-- ---- a question is asked

-- the octets of the query that is sent for a question, under an id (RFC 1035 4.1.1)
abbrev pub sent_octets : ℕ → Question → List ℕ
sent_octets id question = plain (query_of id question)

-- the tickets after a question was asked: it gets one, and is sent for the first time; it is due
-- when the wait of the schedule is over
abbrev pub asked : ℕ → Question → ℕ → Asking → Asking
asked id question now asking = record asking {
  tickets = waiting_too (record {
    sent = record { id = id; question = question; sends = 1 };
    deadline = now + asking.schedule.wait;
  }) asking.tickets;
  serial = asking.serial + 1;
}

-- where each refusal to ask comes, and it comes exactly there, in the order of the checks; memory
-- is needed only for what would be taken
abbrev pub Refuses : Asking → ℕ → AskRefusal → Type 0
Refuses asking id IdTaken = IsSome (ticket_of id asking.tickets)
Refuses asking id Full = (ticket_of id asking.tickets ≡ None)
    × (length asking.tickets ≡ asking.limit)
Refuses asking id Spent =
    (ticket_of id asking.tickets ≡ None) × (length asking.tickets < asking.limit)
    × (asking.serial ≡ 2 ^ 64 - 1)
Refuses asking id Memory =
    (ticket_of id asking.tickets ≡ None) × (length asking.tickets < asking.limit)
    × (asking.serial < 2 ^ 64 - 1)

-- what asking a question leaves and gives
abbrev pub Asks : Asking → Asking → ℕ → Question → ℕ → Result (Bor (List ℕ)) AskRefusal → Type 0
Asks old new id question now (Ok octets) =
    (octets.now ≡ sent_octets id question) × (new ≡ asked id question now old)
    × (ticket_of id old.tickets ≡ None) × (length old.tickets < old.limit)
    × (old.serial < 2 ^ 64 - 1)
Asks old new id question now (Err refusal) = (new ≡ old) × Refuses old id refusal

-- ---- octets come in

-- the refusals that end the wait for a reply: the others are of another message
abbrev pub EndsWait : ReplyRefusal → Type 0
EndsWait reply.NotReply = ⊥
EndsWait reply.OtherQuestion = ⊥
EndsWait reply.Truncated = ⊤
EndsWait (reply.ServerFault code) = ⊤
EndsWait reply.Memory = ⊥

-- how the wait ends by a message: by its answer, or by its first fault
abbrev pub EndsBy : Question → Message → Ending → Type 0
EndsBy question message (Answered found) = (reply_refusal question message ≡ None)
    × (found ≡ answer question message)
EndsBy question message (Faulty refusal) = (reply_refusal question message ≡ Some refusal)
    × EndsWait refusal

-- why a message is no reply to the question (RFC 1035 4.1.1)
abbrev pub IsNoReply : Question → Message → Why → Type 0
IsNoReply question message NotSpelled = ⊥
IsNoReply question message UnknownId = ⊥
IsNoReply question message NotReply = reply_refusal question message ≡ Some reply.NotReply
IsNoReply question message OtherQuestion = reply_refusal question message ≡ Some reply.OtherQuestion

-- what a message means for the ticket of its id
abbrev pub Says : Ticket → Message → Incoming → Type 0
Says ticket message (Ended id question ending) = (id ≡ ticket.sent.id)
    × (question ≡ ticket.sent.question) × EndsBy ticket.sent.question message ending
Says ticket message (Ignored why) = IsNoReply ticket.sent.question message why

-- octets begin with a message whose id has a ticket, and this is what the message means for that
-- ticket
pub record Tells (asking : Asking) (octets : List ℕ) (incoming : Incoming) : Type 0 where
  pub message : Message
  pub begins : Begins octets message
  pub ticket : Ticket
  pub is_open : ticket_of message.header.id asking.tickets ≡ Some ticket
  pub says : Says ticket message incoming

-- What octets mean for the tickets (RFC 5452 9.1). No two of these can be so of the same octets.
abbrev pub Means : Asking → List ℕ → Incoming → Type 0
Means asking octets (Ignored NotSpelled) = (it : Message) → Begins octets it → ⊥
Means asking octets (Ignored UnknownId) = (it : Message) × Begins octets it
    × (ticket_of it.header.id asking.tickets ≡ None)
Means asking octets (Ignored NotReply) = Tells asking octets (Ignored NotReply)
Means asking octets (Ignored OtherQuestion) = Tells asking octets (Ignored OtherQuestion)
Means asking octets (Ended id question ending) = Tells asking octets (Ended id question ending)

-- the tickets after one was closed
abbrev pub closed : ℕ → Asking → Asking
closed id asking = record asking { tickets = without id asking.tickets }

-- the tickets that octets leave, by what these mean
abbrev pub left_by : Incoming → Asking → Asking
left_by (Ended id question ending) asking = closed id asking
left_by (Ignored why) asking = asking

-- memory is needed where a name stands after the header, and for the answer of a message without a
-- fault
abbrev pub MayWant : Asking → List ℕ → Type 0
MayWant asking octets = (length octets ≤ 65535)
    × (NamedAt octets 12 ⊎ ((found : AnswerValue) × (id : ℕ) × (question : Question)
    × Tells asking octets (Ended id question (Answered found))))

-- ---- time goes on

-- what is known of a query after it was sent once more
abbrev pub sent_again : Sent → Sent
sent_again sent = record sent { sends = sent.sends + 1 }

-- a ticket whose query was sent again at this moment; it is due when the wait of the schedule is
-- over
abbrev pub again : Schedule → ℕ → Ticket → Ticket
again schedule now ticket =
    record { sent = sent_again ticket.sent; deadline = now + schedule.wait }

-- the question of the first ticket was sent less often than the schedule says, and no reply came in
-- time: it is sent once more
pub record IsResent (old new : Asking) (now id : ℕ) (octets : List ℕ) : Type 0 where
  pub ticket : Ticket
  pub others : List Ticket
  pub first : old.tickets ≡ ticket ∷ others
  pub over : ticket.deadline ≤ now
  pub more : ticket.sent.sends < old.schedule.sends
  pub id_is : id ≡ ticket.sent.id
  pub octets_are : octets ≡ sent_octets ticket.sent.id ticket.sent.question
  pub left : new ≡ record old { tickets = waiting_too (again old.schedule now ticket) others }

-- the question of the first ticket was sent as often as the schedule says, and no reply came in
-- time: it waits no longer
pub record IsGivenUp (old new : Asking) (now id : ℕ) (question : Question) : Type 0 where
  pub ticket : Ticket
  pub others : List Ticket
  pub first : old.tickets ≡ ticket ∷ others
  pub over : ticket.deadline ≤ now
  pub enough : old.schedule.sends ≤ ticket.sent.sends
  pub id_is : id ≡ ticket.sent.id
  pub question_is : question ≡ ticket.sent.question
  pub left : new ≡ record old { tickets = others }

-- what a moment leaves of the tickets, and which of them is due (RFC 1035 4.2.1)
abbrev pub Dues : Asking → Asking → ℕ → Option Due → Type 0
Dues old new now None = (new ≡ old) × All (λ it. now < it.deadline) old.tickets
Dues old new now (Some (Resend id octets)) = IsResent old new now id octets.now
Dues old new now (Some (GaveUp id question)) = IsGivenUp old new now id question.now
