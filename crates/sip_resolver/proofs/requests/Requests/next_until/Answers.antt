use Rattle.sip_resolver.proofs.Earlier.{least-known, moments-in}
use Rattle.sip_resolver.specs.Earliest.{untils_in}
use Rattle.sip_resolver.proofs.requests.Requests.next_until.Goals as goal

pub returns : goal.returns
returns g c =
    let it = c.self.inside in
    let untils = untils_in it.ready.items it.held.items it.waiting.items in
    let least = least-known untils it.earliest.moment it.earliest.count c.is_past.result c.is_past.ensures c.if-is_past.false
    c.self.invariant.earliest_is in
    rw (← c.self.view_is, c.moment.ensures) (rw (moments-in it.ready.items it.held.items it.waiting.items) at least)
