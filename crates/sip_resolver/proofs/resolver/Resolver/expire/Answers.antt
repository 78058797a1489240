use Rattle.sip_resolver.proofs.InTime.{expires-not}
use Rattle.sip_resolver.proofs.resolver.Resolver.expire.Goals as goal

pub returns-then-has_late-clause-awaited : goal.returns-then-has_late-clause-awaited
returns-then-has_late-clause-awaited g c =
    rw (← c.self.view_is) (λ it. c.expire_late.ensures.awaited (rw c.has_late.ensures.unchanged it))

pub returns-else-has_late-clause-expires : goal.returns-else-has_late-clause-expires
returns-else-has_late-clause-expires g c =
    let late = rw c.has_late.ensures.unchanged at (c.has_late.ensures.late c.if-has_late.false) in
    rw (← c.self.view_is, c.has_late.ensures.unchanged) (expires-not c.args.now _ late)

pub returns-else-has_late-clause-awaited : goal.returns-else-has_late-clause-awaited
returns-else-has_late-clause-awaited g c = rw (← c.self.view_is) (λ it. rw c.has_late.ensures.unchanged it)
