use Rattle.sip_selection.proofs.ChoiceLaws.{missing_is}
use Rattle.sip_selection.proofs.choice_laws.law_questions_are_missing.Goals as goal

pub returns-clause-missing : goal.returns-clause-missing
returns-clause-missing c = λ request caps words given question is. (missing_is request caps words given question is).0

pub returns-clause-kind : goal.returns-clause-kind
returns-clause-kind c = λ request caps words given question is. (missing_is request caps words given question is).1
