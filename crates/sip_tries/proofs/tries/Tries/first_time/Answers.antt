use Rattle.std.proofs.Common.{arith}
use Rattle.sip_tries.proofs.InTurn.{first-at}
use Rattle.sip_tries.proofs.tries.Tries.first_time.Goals as goal

pub tries-preserved : goal.tries-preserved
tries-preserved c =
    grind (arith, c.tries.invariant, c.time.ensures, c.first_of-time.ensures, c.tries-test.true, c.deref-it-items.ensures.value, first-at)
