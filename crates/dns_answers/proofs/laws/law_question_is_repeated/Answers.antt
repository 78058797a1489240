use Rattle.dns_answers.proofs.Repeated.{repeated, repeats}
use Rattle.dns_answers.proofs.laws.law_question_is_repeated.Goals as goal

pub returns : goal.returns
returns c = λ question questions.
    (repeated c.law_same_names_are_equal.ensures question questions, repeats c.law_same_names_are_equal.ensures question questions)
