use Rattle.rolling_resolver.proofs.Choosing.{tells-of}
use Rattle.rolling_resolver.proofs.Resting.{told-keeps}
use Rattle.rolling_resolver.proofs.resolver.RollingResolver.tell_next.Goals as goal

pub returns-clause-chosen : goal.returns-clause-chosen
returns-clause-chosen c = λ yes. tells-of c.law_same_questions_are_equal.ensures _ _ (c.keep_next.ensures.tells yes)

pub returns-clause-answers : goal.returns-clause-answers
returns-clause-answers c = told-keeps c.keep_next.result _ _ c.keep_next.ensures.none c.keep_next.ensures.tells
