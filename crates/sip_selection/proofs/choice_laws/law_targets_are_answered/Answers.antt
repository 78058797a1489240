use Rattle.sip_selection.proofs.ChoiceLaws.{answered_all}
use Rattle.sip_selection.proofs.choice_laws.law_targets_are_answered.Goals as goal

pub returns : goal.returns
returns c = λ request caps words given name named found is. answered_all request caps words given name named found is
