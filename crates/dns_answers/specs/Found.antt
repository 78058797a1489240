-- Answers that were found where they are kept.
use Rattle.std.specs.Arc.{arc_value}
use Rattle.dns_answers.specs.Values.{AnswerValue}
use Rattle.dns_answers.specs.declared.found.FoundAnswer.{FoundAnswer}
use Rattle.dns_answers.specs.declared.found.FoundAnswer.TheVariants.{Borrowed, Owned}

-- the answer that was found, borrowed or owned
abbrev pub answer_in : FoundAnswer → AnswerValue
answer_in (Borrowed answer) = arc_value answer.now
answer_in (Owned answer) = arc_value answer

-- the answer is lent: no count of owners was touched
abbrev pub IsBorrowed : FoundAnswer → Type 0
IsBorrowed (Borrowed answer) = Unit {0}
IsBorrowed (Owned answer) = ⊥
