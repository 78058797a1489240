use Rattle.std.proofs.Common.{refl}
use Rattle.wokhleas.proofs.wire.give_up.Goals as goal

pub returns-then-found-clause-gives_up : goal.returns-then-found-clause-gives_up
returns-then-found-clause-gives_up c =
    rw (c.in_ok-resolver.ensures.taken, c.put.ensures) (rw c.deref_mut.ensures.value at (c.if-found.ensures.gives_up refl))
