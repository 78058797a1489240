-- Which questions are out.
use Rattle.std.specs.Prelude.{◌≡◌, ◌≢◌, ℕ, List, Option, Some, None}
use Rattle.std.specs.List.{All, AllPairs}
use Rattle.dns_message.specs.declared.question.Question.{Question}
use Rattle.dns_queries.specs.Events.{sent_octets}
use Rattle.dns_queries.specs.Tickets.{Ticket, ticket_of}

-- no ticket is of this question
abbrev pub LacksQuestion : Question → List Ticket → Type 0
LacksQuestion question tickets = All (λ it. it.sent.question ≢ question) tickets

-- the ticket of this id is of this question
pub record HasQuestion (question : Question) (id : ℕ) (tickets : List Ticket) : Type 0 where
  pub ticket : Ticket
  pub there : ticket_of id tickets ≡ Some ticket
  pub of_it : ticket.sent.question ≡ question

-- these are the octets that are sent for the question of the ticket of this id (RFC 1035 4.1.1)
pub record IsOctetsOf (octets : List ℕ) (id : ℕ) (tickets : List Ticket) : Type 0 where
  pub ticket : Ticket
  pub there : ticket_of id tickets ≡ Some ticket
  pub are : octets ≡ sent_octets id ticket.sent.question

-- how many times the question of a ticket was sent, and 0 where there is none
abbrev pub sends_in : Option Ticket → ℕ
sends_in None = 0
sends_in (Some ticket) = ticket.sent.sends

-- no two tickets are of one question
abbrev pub AreApart : List Ticket → Type 0
AreApart tickets = AllPairs (λ one other. one.sent.question ≢ other.sent.question) tickets
