use Rattle.dns_name.proofs.Offsets.{NameAt-written}
use Rattle.dns_name.proofs.laws.law_written_name_is_read.Goals as goal

pub returns : goal.returns
returns c = λ front back name is. NameAt-written front back name is
