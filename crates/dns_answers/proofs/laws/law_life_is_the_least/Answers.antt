use Rattle.dns_answers.proofs.LeastLives.{life_is_least}
use Rattle.dns_answers.proofs.laws.law_life_is_the_least.Goals as goal

pub returns : goal.returns
returns c = λ message chain kept some. life_is_least message chain kept some
