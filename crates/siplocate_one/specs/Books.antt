-- The book of a talk.
use Rattle.std.specs.Prelude.{◌≡◌, List, [], None}
use Rattle.answer_log.specs.Histories.{stores_of}
use Rattle.answer_cache.specs.Lists.{IsListSeat}
use Rattle.answer_cache.specs.Seats.{SeatView}
use Rattle.dns_message.specs.declared.question.Question.{Question}
use Rattle.sip_selection.specs.Known.{Given, find_answer}

-- a question that has no answer yet has no store
pub record BookFits (given : List Given) (seat : SeatView) : Type 0 where
  pub is : IsListSeat seat
  pub unknown : (question : Question) → find_answer given question ≡ None
      → stores_of question seat.seen ≡ []
