use Rattle.std.proofs.Common.{arith}
use Rattle.sip_resolver.proofs.Slotting.{few-end}
use Rattle.sip_resolver.specs.WaitingQueues.{items_of}
use Rattle.sip_resolver.proofs.waiting_queue.WaitingQueue.count_at.Goals as goal

pub returns-clause-few : goal.returns-clause-few
returns-clause-few g c =
    let count = c.count_at.ensures.count in
    let few = few-end c.args.moment (items_of c.self.inside.slots.items) in
    rw (← c.self.view_is) (omega (arith, count, few))
