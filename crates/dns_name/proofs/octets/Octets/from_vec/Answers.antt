use Rattle.std.proofs.Common.{refl}
use Rattle.dns_name.proofs.Padding.{IsPadded-zeros}
use Rattle.dns_name.proofs.octets.Octets.from_vec.Goals as goal

pub invariant_of-result : goal.invariant_of-result
invariant_of-result c = IsPadded-zeros _ refl refl
