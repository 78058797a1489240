use Rattle.sip_resolver.proofs.Expiring.{all-expires, awaits-expired}
use Rattle.sip_resolver.proofs.Standing.{goes-through, nothing-through}
use Rattle.sip_resolver.proofs.resolver.Resolver.expire_late.Goals as goal

pub expire_ready-requires-clause-stand : goal.expire_ready-requires-clause-stand
expire_ready-requires-clause-stand g c =
    c.expire_waiting.ensures.stand (g.B.AnswerBook.shown c.args.seat.now) (rw (← c.self.view_is) at c.requires.stand)

pub returns-clause-goes_on : goal.returns-clause-goes_on
returns-clause-goes_on g c = goes-through _ _ _ c.expire_ready.ensures.goes_on c.expire_held.ensures.goes_on

pub returns-clause-stores_nothing : goal.returns-clause-stores_nothing
returns-clause-stores_nothing g c = nothing-through _ _ _ c.expire_ready.ensures.stores_nothing c.expire_held.ensures.stores_nothing

pub returns-clause-expires : goal.returns-clause-expires
returns-clause-expires g c =
    let one = c.expire_waiting.ensures in
    let two = c.expire_ready.ensures in
    let three = c.expire_held.ensures in
    rw (← c.self.view_is)
    (all-expires c.args.now c.self.inside.requests c.expire_waiting.new.requests c.expire_ready.new.requests c.expire_held.new.requests
    c.self.inside.questions c.expire_waiting.new.questions c.self.inside.streams one.others two.others three.others one.ends two.ends
    three.ends one.same two.same three.same one.questions)

pub returns-clause-awaited : goal.returns-clause-awaited
returns-clause-awaited g c =
    let one = c.expire_waiting.ensures in
    let two = c.expire_ready.ensures in
    let three = c.expire_held.ensures in
    rw (← c.self.view_is)
    (awaits-expired c.args.now _ _
    (all-expires c.args.now c.self.inside.requests c.expire_waiting.new.requests c.expire_ready.new.requests c.expire_held.new.requests
    c.self.inside.questions c.expire_waiting.new.questions c.self.inside.streams one.others two.others three.others one.ends two.ends
    three.ends one.same two.same three.same one.questions))
