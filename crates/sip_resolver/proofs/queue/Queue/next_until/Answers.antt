use Rattle.sip_resolver.proofs.Deadlines.{least-all, least-too}
use Rattle.sip_resolver.proofs.queue.Queue.next_until.Goals as goal

pub items-preserved : goal.items-preserved
items-preserved g c =
    let within = rw (c.len-at-end.ensures, c.self.inside.items.ok.0) at c.items-test.true in
    least-too g.T.Timed.until_of c.self.inside.items.items c.items.at c.index-item.result.now within c.index-item.ensures
    c.items.least c.its_until.result c.least_of-least.result c.its_until.ensures c.items.invariant c.least_of-least.ensures

pub returns : goal.returns
returns g c =
    let all = rw (c.len-at-end.ensures, c.self.inside.items.ok.0) at c.items-test.false in
    rw (← c.self.view_is) (least-all g.T.Timed.until_of c.self.inside.items.items c.items.at c.items.least all c.items.invariant)
