use Rattle.std.proofs.Common.{refl}
use Rattle.dns_name.proofs.Padding.{IsPadded-zeros, IsPadded-one}
use Rattle.dns_name.proofs.message.read_short_over.Goals as goal

pub read_short-requires-clause-zeros : goal.read_short-requires-clause-zeros
read_short-requires-clause-zeros c = IsPadded-zeros _ refl refl

pub invariant_of-octets-in-None : goal.invariant_of-octets-in-None
invariant_of-octets-in-None c = IsPadded-one _ refl refl

pub read_plain-requires : goal.read_plain-requires
read_plain-requires c = IsPadded-zeros _ refl refl
