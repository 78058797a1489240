-- What becomes of the questions that are out, as a moment is polled.
use Rattle.std.specs.Prelude.{◌≡◌, ℕ, ◌<◌, ◌≤◌, max, false, List, Some, None}
use Rattle.std.specs.List.{All, Contains}
use Rattle.dns_queries.specs.Events.{again}
use Rattle.dns_queries.specs.Tickets.{Ticket}
use Rattle.dns_queries.specs.declared.schedule.Schedule.{Schedule}
use Rattle.answer_cache.specs.Seats.{SeatView}
use Rattle.sip_resolver.specs.Expiries.{waits_in_time}
use Rattle.sip_resolver.specs.Questions.{QuestionsView, schedule_of}
use Rattle.sip_resolver.specs.Resolvers.{Polls, ResolverView}
use Rattle.sip_resolver.specs.Sends.{IsInVain, tickets_of}
use Rattle.sip_resolver.specs.Tasks.{WaitingView}
use Rattle.sip_resolver.specs.declared.transmit.Transmit.{Transmit}

-- ---- a moment is polled

-- `poll_transmit` was called at a moment, and each call gave something to send
pub data PollsMany (gives : List ℕ → Type 0) (shows : ℕ → Type 0) {I : Type 0}
    (draws : I → ℕ → I → Type 0) (now asked : ℕ) (first : ResolverView) : ResolverView → Type 0
  where
    begun : PollsMany gives shows draws now asked first first
    further : (seat : SeatView) (old new : ResolverView) (transmit : Transmit)
        → PollsMany gives shows draws now asked first old
        → Polls gives shows draws seat now asked old new (Some transmit)
        → PollsMany gives shows draws now asked first new

-- `poll_transmit` was called at a moment until it gave nothing to send
pub record PollsAll (gives : List ℕ → Type 0) (shows : ℕ → Type 0) {I : Type 0}
    (draws : I → ℕ → I → Type 0) (now asked : ℕ) (first last : ResolverView) : Type 0 where
  pub middle : ResolverView
  pub many : PollsMany gives shows draws now asked first middle
  pub seat : SeatView
  pub none : Polls gives shows draws seat now asked middle last None

-- ---- what becomes of a question

-- a request waited for the reply to the question of this id, and its time is over
pub record IsLetGo (now : ℕ) (waiting : List WaitingView) (id : ℕ) : Type 0 where
  pub it : WaitingView
  pub there : Contains waiting it
  pub waits : it.id ≡ id
  pub over : waits_in_time now it ≡ false

-- A question before its deadline is as it was. From its deadline on it is sent once more, where it
-- was sent less often than the schedule says, and counts as sent at the later moment. Where it was
-- sent as often it is given up. Only a question that a request waited for whose time is over may be
-- let go in place of it.
pub data IsDealtWith (schedule : Schedule) (now asked : ℕ) (waiting : List WaitingView)
    (last : QuestionsView) (ticket : Ticket) : Type 0 where
  waits_on : now < ticket.deadline → Contains (tickets_of last) ticket
      → IsDealtWith schedule now asked waiting last ticket
  sent_again : ticket.deadline ≤ now → ticket.sent.sends < schedule.sends
      → Contains (tickets_of last) (again schedule (max now asked) ticket)
      → IsDealtWith schedule now asked waiting last ticket
  given_up : IsInVain schedule now ticket → (Contains (tickets_of last) ticket → ⊥)
      → IsDealtWith schedule now asked waiting last ticket
  let_go : IsLetGo now waiting ticket.sent.id
      → IsDealtWith schedule now asked waiting last ticket

-- each question that is out is dealt with by its deadline (`IsDealtWith`)
abbrev pub AreDealtWith : ℕ → ℕ → ResolverView → ResolverView → Type 0
AreDealtWith now asked first last =
    All (IsDealtWith (schedule_of first.questions) now asked first.requests.waiting last.questions)
    (tickets_of first.questions)

-- each question that is out is as it was
abbrev pub AreAsBefore : ResolverView → ResolverView → Type 0
AreAsBefore first last =
    All (λ ticket. Contains (tickets_of last.questions) ticket) (tickets_of first.questions)

-- a question of this deadline is sent again or given up
pub record IsOneDue (deadline : ℕ) (first last : ResolverView) : Type 0 where
  pub ticket : Ticket
  pub was : Contains (tickets_of first.questions) ticket
  pub due : ticket.deadline ≡ deadline
  pub left : Contains (tickets_of last.questions) ticket → ⊥
