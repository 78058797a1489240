use Rattle.std.proofs.Common.{refl}
use Rattle.sip_resolver.proofs.task.progress_of.Goals as goal

pub returns-in-Ask : goal.returns-in-Ask
returns-in-Ask c = rw c.in-Ask.is (_, refl)
