use Rattle.rolling_resolver.proofs.resolver.RollingResolver.let_go.Goals as goal

pub returns-clause-answers : goal.returns-clause-answers
returns-clause-answers c = rw (← c.self.view_is, c.take.ensures.after) (λ given it. record { current = it.current; draining = tt })
