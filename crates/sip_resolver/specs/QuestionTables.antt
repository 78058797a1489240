-- The ids of the questions that are out, as a finite map from questions. No public clause cites
-- this module.
use Rattle.std.specs.Prelude.{◌≡◌, ℕ, List, Option, Some, IfSome, IsSome}
use Rattle.std.specs.List.{All}
use Rattle.std.specs.Map.{lookup}
use Rattle.dns_message.specs.Questions.{same_question}
use Rattle.dns_message.specs.declared.question.Question.{Question}
use Rattle.dns_queries.specs.Tickets.{Ticket, ticket_of}
use Rattle.sip_resolver.specs.Questions.{AreBounded, QuestionsView}

-- questions with their ids, and how many questions more it takes without memory
pub record TableView : Type 0 where
  pub entries : List (Question × ℕ)
  pub room : ℕ

-- the id of a question
abbrev pub id_in : TableView → Question → Option ℕ
id_in table question = lookup (same_question question) table.entries

-- The question of each of these tickets has its id in a table, each id in the table has a ticket,
-- and no two questions have one id there. So the table has no other question.
pub record IsIndex (id_of : Question → Option ℕ) (tickets : List Ticket) : Type 0 where
  pub has : All (λ it. id_of it.sent.question ≡ Some it.sent.id) tickets
  pub is_out : (question : Question) → IfSome (id_of question) (λ id. IsSome (ticket_of id tickets))
  pub single : (one other : Question) (id : ℕ) → id_of one ≡ Some id → id_of other ≡ Some id
      → one ≡ other

-- the questions that are out are as they always are, and each is in the table of those that are out
-- over datagrams, or over streams
pub record AreIndexed (it : QuestionsView) (datagram_ids stream_ids : TableView) : Type 0 where
  pub bounded : AreBounded it
  pub datagrams : IsIndex (id_in datagram_ids) it.datagrams.tickets
  pub streams : IsIndex (id_in stream_ids) it.streams.tickets
