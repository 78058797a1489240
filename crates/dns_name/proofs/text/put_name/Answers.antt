use Rattle.std.proofs.Common.{refl}
use Rattle.dns_name.proofs.Padding.{IsPadded-zeros}
use Rattle.dns_name.proofs.text.put_name.Goals as goal

pub put_labels-requires-clause-zeros : goal.put_labels-requires-clause-zeros
put_labels-requires-clause-zeros c = IsPadded-zeros _ refl refl
