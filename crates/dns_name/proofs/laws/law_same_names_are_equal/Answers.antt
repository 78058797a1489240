use Rattle.dns_name.proofs.Wire.{same_name-decides}
use Rattle.dns_name.proofs.laws.law_same_names_are_equal.Goals as goal

pub returns : goal.returns
returns c = λ name other. same_name-decides name other
