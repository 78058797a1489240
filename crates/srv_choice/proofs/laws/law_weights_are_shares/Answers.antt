use Rattle.srv_choice.proofs.Shares.{first_share, other_share}
use Rattle.srv_choice.proofs.Picks.{IsPermutation-arrangement}
use Rattle.srv_choice.proofs.laws.law_weights_are_shares.Goals as goal

pub returns-clause-arranged : goal.returns-clause-arranged
returns-clause-arranged c = λ records indexes. IsPermutation-arrangement records indexes

pub returns-clause-first : goal.returns-clause-first
returns-clause-first c = λ records first others distinct. first_share records first others distinct

pub returns-clause-others : goal.returns-clause-others
returns-clause-others c = λ records first others index distinct at. other_share records first others index distinct at
