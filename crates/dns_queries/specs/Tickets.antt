-- The questions that were sent and have no reply yet.
use Rattle.std.specs.Prelude.{ℕ, ◌<◌, ◌≤◌, ◌==◌, nat_le, Bool, not, List, ◌∷◌, ◌++◌, length, Option}
use Rattle.std.specs.List.{All, AllPairs, filter, find}
use Rattle.dns_message.specs.declared.question.Question.{Question}
use Rattle.dns_queries.specs.declared.schedule.Schedule.{Schedule}

-- a question that was sent: its id, and how many times it was sent
pub record Sent : Type 0 where
  pub id : ℕ
  pub question : Question
  pub sends : ℕ

-- a question that was sent, and the moment until which it waits for its reply
pub record Ticket : Type 0 where
  pub sent : Sent
  pub deadline : ℕ

-- the tickets, how many may be open at once, the number of the next one (RFC 1035 4.1.1), and the
-- schedule by which their questions are sent
pub record Asking : Type 0 where
  pub tickets : List Ticket
  pub limit : ℕ
  pub serial : ℕ
  pub schedule : Schedule

-- three sends, and one second for each
abbrev pub usual : Schedule
usual = record { sends = 3; wait = 1 }

-- a schedule has 1 to 15 sends, and 1 to 60 seconds for each
pub record IsSchedule (schedule : Schedule) : Type 0 where
  pub sends : (1 ≤ schedule.sends) × (schedule.sends ≤ 15)
  pub wait : (1 ≤ schedule.wait) × (schedule.wait ≤ 60)

-- a ticket has this id
abbrev pub has_id : ℕ → Ticket → Bool
has_id id ticket = ticket.sent.id == id

-- the ticket of an id
abbrev pub ticket_of : ℕ → List Ticket → Option Ticket
ticket_of id tickets = find (has_id id) tickets

-- the tickets of the other ids
abbrev pub without : ℕ → List Ticket → List Ticket
without id tickets = filter (λ it. not (has_id id it)) tickets

-- the tickets with one more, after all whose deadlines are not greater and before the others
abbrev pub waiting_too : Ticket → List Ticket → List Ticket
waiting_too ticket tickets =
    filter (λ it. nat_le it.deadline ticket.deadline) tickets
    ++ ticket ∷ filter (λ it. not (nat_le it.deadline ticket.deadline)) tickets

-- a query was sent at least once, and at most as often as a schedule says
pub record IsSent (schedule : Schedule) (sent : Sent) : Type 0 where
  pub some : 0 < sent.sends
  pub few : sent.sends ≤ schedule.sends

-- what always holds of the tickets: they are by deadline, at most one of each id, each sent as the
-- schedule allows, and no more than the limit; and the schedule's numbers are in range
pub record IsAsking (asking : Asking) : Type 0 where
  pub in_order : AllPairs (λ ticket later. ticket.deadline ≤ later.deadline) asking.tickets
  pub single : (id : ℕ) → length (filter (has_id id) asking.tickets) ≤ 1
  pub sent : All (λ ticket. IsSent asking.schedule ticket.sent) asking.tickets
  pub few : length asking.tickets ≤ asking.limit
  pub scheduled : IsSchedule asking.schedule
