-- What is sent at a moment, and what is given up.
use Rattle.std.specs.Prelude.{◌≡◌, ◌⊎◌, ⊤, ℕ, ◌+◌, ◌≤◌, max, List, ◌∷◌, ◌++◌, Option, Some, None}
use Rattle.std.specs.List.{All, Contains}
use Rattle.dns_message.specs.declared.question.Question.{Question}
use Rattle.dns_queries.specs.Events.{IsResent}
use Rattle.dns_queries.specs.Tickets.{Asking, Ticket}
use Rattle.dns_queries.specs.declared.schedule.Schedule.{Schedule}
use Rattle.sip_selection.specs.Choice.{need}
use Rattle.sip_selection.specs.Selections.{now_of}
use Rattle.sip_resolver.specs.Questions.{IsMessageOf, QuestionsView, asked_over, asking_over, schedule_of}
use Rattle.sip_resolver.specs.Tasks.{TaskView, WaitingView, over_of}
use Rattle.sip_resolver.specs.declared.outcome.Outcome.{Outcome}
use Rattle.sip_resolver.specs.declared.outcome.Outcome.TheVariants.{Targets, Refused, NoAnswer, NoServer, BadReply, Memory}
use Rattle.sip_resolver.specs.declared.transmit.DnsTransport.{DnsTransport}
use Rattle.sip_resolver.specs.declared.transmit.DnsTransport.TheVariants.{Datagram, Stream}
use Rattle.sip_resolver.specs.declared.transmit.Transmit.{Transmit}

-- ---- what is given up

-- a question was sent as often as a schedule says, and no reply came in time
abbrev pub IsInVain : Schedule → ℕ → Ticket → Type 0
IsInVain schedule now ticket = (schedule.sends ≤ ticket.sent.sends) × (ticket.deadline ≤ now)

-- the questions in front that were in vain are given up, and the others are as they were
pub record GivesUp (now : ℕ) (old new : Asking) : Type 0 where
  pub gone : List Ticket
  pub were : old ≡ record new { tickets = gone ++ new.tickets }
  pub in_vain : All (IsInVain old.schedule now) gone

-- the questions that were in vain are given up, over datagrams and over streams
pub record GivesUpBoth (now : ℕ) (old new : QuestionsView) : Type 0 where
  pub datagrams : GivesUp now old.datagrams new.datagrams
  pub streams : GivesUp now old.streams new.streams

-- this question is one of those that are out, and was sent in vain as often as a schedule says
pub record IsUnanswered (schedule : Schedule) (tickets : List Ticket) (now : ℕ)
    (question : Question) : Type 0 where
  pub ticket : Ticket
  pub stands : Contains tickets ticket
  pub in_vain : IsInVain schedule now ticket
  pub of_it : ticket.sent.question ≡ question

-- the tickets of all questions that are out
abbrev pub tickets_of : QuestionsView → List Ticket
tickets_of it = it.datagrams.tickets ++ it.streams.tickets

-- how a request may end at a moment: without an answer only where the question was in vain, and by
-- no reply
abbrev pub IsInTime : Schedule → List Ticket → ℕ → Outcome → Type 0
IsInTime schedule tickets now (Targets list) = ⊤
IsInTime schedule tickets now (Refused reason) = ⊤
IsInTime schedule tickets now (NoAnswer question) = IsUnanswered schedule tickets now question
IsInTime schedule tickets now (NoServer question) = ⊥
IsInTime schedule tickets now (BadReply question refusal) = ⊥
IsInTime schedule tickets now Memory = ⊤

-- ---- what is sent

-- the questions that are out, with these over datagrams or over streams, and the others as they
-- were
abbrev pub with_over : DnsTransport → Asking → QuestionsView → QuestionsView
with_over Datagram asking it = record it { datagrams = asking }
with_over Stream asking it = record it { streams = asking }

-- A question is sent for the first time, under this id, and counted as asked at this moment, for a
-- request that needs its answer and now waits for it: over a stream where the reply in a datagram
-- was cut (RFC 7766 5).
pub record SendsFirst (asked id : ℕ) (waiting : List WaitingView) (old new : QuestionsView)
    : Type 0 where
  pub task : TaskView
  pub question : Question
  pub needs : now_of task.selection ≡ need question
  pub waits : Contains waiting (record { id = id; task = task })
  pub is_asked : new ≡ asked_over (over_of task) id question asked old

-- the deadline of the first question, which is the least one, is over (RFC 1035 4.2.1)
pub record IsOverdue (now : ℕ) (asking : Asking) : Type 0 where
  pub ticket : Ticket
  pub others : List Ticket
  pub first : asking.tickets ≡ ticket ∷ others
  pub over : ticket.deadline ≤ now

-- One question is sent, under this id, and counted as sent: for the first time, as asked at the one
-- moment, or once more, as no reply came in time for the other. What is sent once more counts as
-- sent at the later one of them.
pub data SendsOne (now asked id : ℕ) (waiting : List WaitingView) (old new : QuestionsView)
    : Type 0 where
  first : SendsFirst asked id waiting old new → SendsOne now asked id waiting old new
  again : (over : DnsTransport) (asking : Asking) (octets : List ℕ)
      → IsOverdue now (asking_over over old)
      → IsResent (asking_over over old) asking (max now asked) id octets
      → new ≡ with_over over asking old → SendsOne now asked id waiting old new

-- some questions are given up, and then one is sent
pub record SendsAfter (now asked id : ℕ) (waiting : List WaitingView) (old new : QuestionsView)
    : Type 0 where
  pub middle : QuestionsView
  pub gives_up : GivesUpBoth now old middle
  pub sends : SendsOne now asked id waiting middle new

-- the id of what is sent, if something is
abbrev pub sent_id : Option Transmit → Option ℕ
sent_id None = None
sent_id (Some transmit) = Some transmit.id

-- The message is that of the one question that is sent, and says how often it was sent. Where there
-- is none, none is sent, and none is counted as sent.
abbrev pub Sends : ℕ → ℕ → List WaitingView → QuestionsView → QuestionsView → Option Transmit
    → Type 0
Sends now asked waiting old new None = GivesUpBoth now old new
Sends now asked waiting old new (Some transmit) =
    (id : ℕ) × SendsAfter now asked id waiting old new
    × IsMessageOf transmit id (asking_over transmit.over new).tickets

-- Each question that is out was out before, and waits as long as it did; or it was sent, and its
-- deadline is at least the whole wait of the schedule after the moment rounded up.
abbrev pub AreSpaced : ℕ → QuestionsView → QuestionsView → Type 0
AreSpaced asked old new =
    All (λ ticket. Contains (tickets_of old) ticket
    ⊎ (asked + (schedule_of old).wait ≤ ticket.deadline)) (tickets_of new)
