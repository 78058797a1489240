-- What a source of answers said while it was asked.
use Rattle.std.specs.Prelude.{Option}
use Rattle.dns_answers.specs.Values.{AnswerValue}
use Rattle.dns_message.specs.declared.question.Question.{Question}

-- calls that each do what a call may do to a seat lead from one state of it to another
pub data Went {Seat : Type 0} (goes : Seat → Seat → Type 0) (start : Seat) : Seat → Type 0 where
  here : Went goes start start
  onward : {seat : Seat} (next : Seat) → Went goes start seat → goes seat next
      → Went goes start next

-- This is what a source said to a question, when it was asked after a start: its answer, or that it
-- has none.
pub record Said {Seat : Type 0} (goes : Seat → Seat → Type 0)
    (says : Seat → Question → Option AnswerValue → Type 0) (start : Seat) (question : Question)
    (found : Option AnswerValue) : Type 0 where
  pub seat : Seat
  pub went : Went goes start seat
  pub said : says seat question found
