use Rattle.std.proofs.Common.{sym, ◌∙◌}
use Rattle.sip_resolver.proofs.InTime.{have-time}
use Rattle.sip_resolver.proofs.requests.Requests.has_late.Goals as goal

pub returns-clause-late : goal.returns-clause-late
returns-clause-late g c = λ no.
    let come = rw c.get.ensures.seconds at c.has_come.ensures in
    rw (← c.self.view_is) (have-time c.args.now _ c.self.inside.earliest c.self.invariant.earliest_is (sym come ∙ no))
