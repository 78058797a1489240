use Rattle.sip_selection.proofs.ChoiceLaws.{offered_all}
use Rattle.sip_selection.proofs.choice_laws.law_targets_are_offered.Goals as goal

pub returns : goal.returns
returns c = λ request caps words given found is. offered_all request caps words given found is
