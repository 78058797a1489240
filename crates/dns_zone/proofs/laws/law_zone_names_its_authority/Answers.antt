use Rattle.dns_zone.proofs.Nearest.{is_nearest, nearest_is, none_anywhere, nowhere, one_or_none}
use Rattle.dns_zone.proofs.laws.law_zone_names_its_authority.Goals as goal

pub returns-clause-found : goal.returns-clause-found
returns-clause-found c = λ zone name start. (nearest_is zone name start, is_nearest zone name start)

pub returns-clause-none : goal.returns-clause-none
returns-clause-none c = λ zone name. (nowhere zone name, none_anywhere zone name)

pub returns-clause-one : goal.returns-clause-one
returns-clause-one c = λ zone name. one_or_none zone name
