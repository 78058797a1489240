-- The questions that are out, over datagrams and over streams.
use Rattle.std.specs.Prelude.{◌≡◌, ◌≢◌, ℕ, ◌+◌, ◌≤◌, List, [], ◌++◌, length, map, Option, Some, None}
use Rattle.std.specs.List.{All, AllPairs, Contains}
use Rattle.dns_message.specs.declared.question.Question.{Question}
use Rattle.dns_queries.specs.Events.{asked, closed, sent_octets}
use Rattle.dns_queries.specs.Out.{LacksQuestion}
use Rattle.dns_queries.specs.Tickets.{Asking, IsSchedule, Ticket, ticket_of}
use Rattle.dns_queries.specs.declared.incoming.Incoming.{Incoming}
use Rattle.dns_queries.specs.declared.incoming.Incoming.TheVariants.{Ended, Ignored}
use Rattle.dns_queries.specs.declared.schedule.Schedule.{Schedule}
use Rattle.sip_resolver.specs.declared.transmit.DnsTransport.{DnsTransport}
use Rattle.sip_resolver.specs.declared.transmit.DnsTransport.TheVariants.{Datagram, Stream}
use Rattle.sip_resolver.specs.declared.transmit.Transmit.{Transmit}

-- the questions that are out: those over datagrams, and those over streams (RFC 1035 4.2)
pub record QuestionsView : Type 0 where
  pub datagrams : Asking
  pub streams : Asking

-- no question is out; the number is how many can be out over datagrams, and over streams, and all
-- are sent by this schedule
abbrev pub none_out : ℕ → Schedule → QuestionsView
none_out limit schedule = record {
  datagrams = record { tickets = []; limit = limit; serial = 0; schedule = schedule };
  streams = record { tickets = []; limit = limit; serial = 0; schedule = schedule };
}

-- how many questions are out
abbrev pub count_out : QuestionsView → ℕ
count_out it = length it.datagrams.tickets + length it.streams.tickets

-- the schedule by which questions are sent
abbrev pub schedule_of : QuestionsView → Schedule
schedule_of it = it.datagrams.schedule

-- questions over datagrams and over streams are sent by one schedule
abbrev pub IsScheduled : QuestionsView → Type 0
IsScheduled it = (it.streams.schedule ≡ schedule_of it) × IsSchedule (schedule_of it)

-- the questions that are out over datagrams, or over streams
abbrev pub asking_over : DnsTransport → QuestionsView → Asking
asking_over Datagram it = it.datagrams
asking_over Stream it = it.streams

-- the questions that are out after one more was asked over datagrams, or over streams
abbrev pub asked_over : DnsTransport → ℕ → Question → ℕ → QuestionsView → QuestionsView
asked_over Datagram id question now it =
    record it { datagrams = asked id question now it.datagrams }
asked_over Stream id question now it = record it { streams = asked id question now it.streams }

-- the questions that are out after one was closed over datagrams, or over streams
abbrev pub closed_over : DnsTransport → ℕ → QuestionsView → QuestionsView
closed_over Datagram id it = record it { datagrams = closed id it.datagrams }
closed_over Stream id it = record it { streams = closed id it.streams }

-- the questions that are out without the one of this id, over datagrams or over streams
abbrev pub closed_both : ℕ → QuestionsView → QuestionsView
closed_both id it = record { datagrams = closed id it.datagrams; streams = closed id it.streams }

-- what is left after octets that came in over this
abbrev pub left_over : DnsTransport → Incoming → QuestionsView → QuestionsView
left_over over (Ended id question ending) it = closed_over over id it
left_over over (Ignored why) it = it

-- this question is not out
pub record Lacks (question : Question) (it : QuestionsView) : Type 0 where
  pub datagrams : LacksQuestion question it.datagrams.tickets
  pub streams : LacksQuestion question it.streams.tickets

-- two questions that are out have neither the same id nor the same question
abbrev pub Differ : Ticket → Ticket → Type 0
Differ one other = (one.sent.id ≢ other.sent.id) × (one.sent.question ≢ other.sent.question)

-- no two questions that are out have one id, and no two are the same question (RFC 5452 5)
pub record AreDistinct (it : QuestionsView) : Type 0 where
  pub datagrams : AllPairs Differ it.datagrams.tickets
  pub streams : AllPairs Differ it.streams.tickets
  pub across : All (λ one. All (Differ one) it.streams.tickets) it.datagrams.tickets

-- They are so, no more than 4,096 can be out over datagrams or over streams, and all are sent by
-- one schedule.
pub record AreBounded (it : QuestionsView) : Type 0 where
  pub distinct : AreDistinct it
  pub few_datagrams : it.datagrams.limit ≤ 4096
  pub few_streams : it.streams.limit ≤ 4096
  pub scheduled : IsScheduled it

-- A message to send is that of the question of the ticket of this id (RFC 1035 4.1.1), and says
-- how often it was sent with this one: 1 at the first send.
pub record IsMessageOf (transmit : Transmit) (id : ℕ) (tickets : List Ticket) : Type 0 where
  pub ticket : Ticket
  pub there : ticket_of id tickets ≡ Some ticket
  pub are : transmit.octets.now ≡ sent_octets id ticket.sent.question
  pub send : transmit.send ≡ ticket.sent.sends
  pub named : transmit.id ≡ id

-- this message is that of the question that is out under this id, over what it goes
abbrev pub IsSent : ℕ → QuestionsView → Option Transmit → Type 0
IsSent id it None =
    (ticket_of id it.datagrams.tickets ≡ None) × (ticket_of id it.streams.tickets ≡ None)
IsSent id it (Some transmit) =
    IsMessageOf transmit id (asking_over transmit.over it).tickets

-- the deadlines of all questions that are out
abbrev pub deadlines_of : QuestionsView → List ℕ
deadlines_of it =
    map (λ ticket. ticket.deadline) it.datagrams.tickets
    ++ map (λ ticket. ticket.deadline) it.streams.tickets

-- the least of these numbers, if there are any
abbrev pub IsLeast : List ℕ → Option ℕ → Type 0
IsLeast numbers None = numbers ≡ []
IsLeast numbers (Some least) = Contains numbers least × All (λ number. least ≤ number) numbers

-- Tickets that come of others: some are gone, and the others have their ids and questions still.
pub record Fewer (old new : List Ticket) : Type 0 where
  pub pairs : AllPairs Differ old → AllPairs Differ new
  pub from_one : (one : Ticket) → All (Differ one) old → All (Differ one) new
  pub from_all : (others : List Ticket) → All (λ one. All (Differ one) others) old
      → All (λ one. All (Differ one) others) new
