use Rattle.sip_resolver.proofs.Restarting.{restarted-anywhere, restarted-awaits, restarted-same, restarted-stands}
use Rattle.sip_resolver.proofs.resolver.Resolver.restart.Goals as goal

pub returns-clause-anywhere : goal.returns-clause-anywhere
returns-clause-anywhere g c =
    rw (← c.self.view_is, c.restart_all.ensures)
    (λ none seat. restarted-anywhere g.F.Facts.gives g.F.Facts.shows seat c.self.inside.requests none)

pub returns-clause-stand : goal.returns-clause-stand
returns-clause-stand g c =
    rw (← c.self.view_is, c.restart_all.ensures)
    (λ seat it. restarted-stands g.F.Facts.gives g.F.Facts.shows seat c.self.inside.requests it.ended)

pub returns-clause-same : goal.returns-clause-same
returns-clause-same g c = rw (← c.self.view_is, c.restart_all.ensures) (restarted-same c.self.inside.requests)

pub returns-clause-awaited : goal.returns-clause-awaited
returns-clause-awaited g c =
    rw c.restart_all.ensures (restarted-awaits c.self.inside.requests c.self.inside.questions)
