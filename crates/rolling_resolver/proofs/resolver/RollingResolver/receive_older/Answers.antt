use Rattle.rolling_resolver.proofs.Receiving.{older-receives}
use Rattle.rolling_resolver.proofs.resolver.RollingResolver.receive_older.Goals as goal

pub returns-clause-receives : goal.returns-clause-receives
returns-clause-receives c =
    rw (← c.self.view_is)
    (older-receives c.args.over c.args.octets.now c.args.at.now.second _ c.args.why c.receive.result _ c.receive.new.self c.in-Some.is
    c.receive.ensures.learns)
