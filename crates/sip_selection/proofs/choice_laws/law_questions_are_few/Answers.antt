use Rattle.sip_selection.proofs.Runs.{few_asked}
use Rattle.sip_selection.proofs.choice_laws.law_questions_are_few.Goals as goal

pub returns : goal.returns
returns c = λ request caps words given four small asked. few_asked request caps words given small four asked
