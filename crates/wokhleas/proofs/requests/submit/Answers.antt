use Rattle.std.proofs.Common.{inr}
use Rattle.wokhleas.proofs.requests.submit.Goals as goal

pub returns-in-Ok-clause-renews : goal.returns-in-Ok-clause-renews
returns-in-Ok-clause-renews c =
    rw (c.in_ok-resolver.ensures.taken, c.put.ensures) (inr (rw c.deref_mut.ensures.value at c.submit-submitted.ensures.renews))

pub returns-in-Err-clause-renews : goal.returns-in-Err-clause-renews
returns-in-Err-clause-renews c =
    rw (c.in_ok-resolver.ensures.taken, c.put.ensures) (inr (rw c.deref_mut.ensures.value at c.submit-submitted.ensures.renews))
