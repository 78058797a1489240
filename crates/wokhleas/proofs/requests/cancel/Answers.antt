use Rattle.std.proofs.Common.{inr, refl}
use Rattle.wokhleas.proofs.requests.cancel.Goals as goal

pub returns-else-found-clause-refused : goal.returns-else-found-clause-refused
returns-else-found-clause-refused c =
    let found = rw c.deref_mut.ensures.value at c.cancel-found.ensures.found in
    rw c.in_ok-resolver.ensures.taken
    (inr (refl, λ there. let yes = found.1 there in let no = c.if-found.false in cc))
