use Rattle.wokhleas.proofs.Callers.{none-at}
use Rattle.wokhleas.proofs.numbers.transports_of.Goals as goal

pub returns-in_err-transports-clause-none : goal.returns-in_err-transports-clause-none
returns-in_err-transports-clause-none c =
    rw c.from_residual.ensures
    (none-at c.args.numbers.now c.loop-at.at _ c.loop-at-test.true c.in_err-transports.ensures.none)
