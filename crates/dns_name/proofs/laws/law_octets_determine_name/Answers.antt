use Rattle.dns_name.proofs.Wire.{same_labels}
use Rattle.dns_name.proofs.laws.law_octets_determine_name.Goals as goal

pub returns : goal.returns
returns c = λ name other same. same_labels name other same
