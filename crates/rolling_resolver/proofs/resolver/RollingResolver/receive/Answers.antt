use Rattle.rolling_resolver.proofs.Resting.{receives-gains}
use Rattle.rolling_resolver.proofs.resolver.RollingResolver.receive.Goals as goal

pub returns-clause-receives : goal.returns-clause-receives
returns-clause-receives c = rw (← c.self.view_is) at c.in_ok-heard.ensures.receives

pub returns-clause-answers : goal.returns-clause-answers
returns-clause-answers c =
    receives-gains _ c.args.octets.now _ c.in_ok-heard.heard _ _ (rw (← c.self.view_is) at c.in_ok-heard.ensures.receives)
