use Rattle.sip_resolver.proofs.Inside.{outcome-of, stand-of}
use Rattle.sip_resolver.proofs.resolver.Resolver.poll_outcome.Goals as goal

pub returns-clause-outcome : goal.returns-clause-outcome
returns-clause-outcome g c =
    rw (← c.self.view_is)
    (λ seat stand. outcome-of _ _ seat c.self.inside.requests c.next_ended.new.self c.next_ended.result c.next_ended.ensures stand)

pub returns-clause-stand : goal.returns-clause-stand
returns-clause-stand g c =
    rw (← c.self.view_is)
    (λ seat stand. stand-of _ _ seat c.self.inside.requests c.next_ended.new.self c.next_ended.result c.next_ended.ensures stand)
