use Rattle.sip_selection.proofs.Rising.{all_stand, rise, as_they_stood}
use Rattle.sip_selection.proofs.laws.law_rules_stand_by_preference.Goals as goal

pub returns-clause-complete : goal.returns-clause-complete
returns-clause-complete c = all_stand

pub returns-clause-lowest_first : goal.returns-clause-lowest_first
returns-clause-lowest_first c = rise

pub returns-clause-as_they_stood : goal.returns-clause-as_they_stood
returns-clause-as_they_stood c = λ rules preference. as_they_stood preference rules
