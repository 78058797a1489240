use Rattle.sip_selection.proofs.ChoiceLaws.{nothing_asked, v4_only, v6_only}
use Rattle.sip_selection.proofs.choice_laws.law_numeric_targets_ask_nothing.Goals as goal

pub returns-clause-nothing : goal.returns-clause-nothing
returns-clause-nothing c = λ request caps words given numeric question. nothing_asked request caps words given numeric question

pub returns-clause-v4 : goal.returns-clause-v4
returns-clause-v4 c = λ request caps words given octets is found e. v4_only request caps words given octets is found e

pub returns-clause-v6 : goal.returns-clause-v6
returns-clause-v6 c = λ request caps words given octets is found e. v6_only request caps words given octets is found e
