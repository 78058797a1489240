use Rattle.rolling_resolver.proofs.Soundness.{younger-taken}
use Rattle.rolling_resolver.proofs.resolver.RollingResolver.next_ended.Goals as goal

pub returns-clause-some : goal.returns-clause-some
returns-clause-some c =
    rw (← c.in_default.ensures.none, ← c.self.view_is)
    (younger-taken c.next_ended.result _ c.next_ended.new.self c.next_ended.ensures.taken)
