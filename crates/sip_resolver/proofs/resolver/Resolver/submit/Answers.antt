use Rattle.std.proofs.lemmas.List.Elements.{All-nil}
use Rattle.sip_resolver.proofs.Inside.{ready-too}
use Rattle.sip_resolver.specs.Outcomes.{Counts}
use Rattle.sip_resolver.proofs.resolver.Resolver.submit.Goals as goal

pub returns-clause-stand : goal.returns-clause-stand
returns-clause-stand g c =
    rw (← c.self.view_is)
    (λ seat it.
    rw c.add.ensures
    (ready-too _ _ seat c.self.inside.requests c.in_ok-task.task it
    (rw c.in_ok-task.ensures (All-nil (Counts g.F.Facts.gives g.F.Facts.shows seat)))))
