use Rattle.dns_name.proofs.Runs.{one_reading}
use Rattle.dns_name.proofs.laws.law_one_name_at_an_offset.Goals as goal

pub returns : goal.returns
returns c = λ message p s end end' name name' a b. one_reading message a.labels b.labels
