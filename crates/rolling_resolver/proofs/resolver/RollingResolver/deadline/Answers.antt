use Rattle.rolling_resolver.proofs.resolver.RollingResolver.deadline.Goals as goal

pub returns : goal.returns
returns c =
    rw (← c.self.view_is)
    (c.least_of.ensures _ _ (rw (← c.self.view_is) at c.older_deadline.ensures) c.deadline.ensures)
