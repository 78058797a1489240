use Rattle.std.proofs.Common.{◌∙◌, ap, refl}
use Rattle.sip_resolver.specs.Queues.{Queued}
use Rattle.sip_resolver.specs.WaitingQueues.{SlotView, items_of}
use Rattle.sip_resolver.proofs.Lining.{items-more, queued-more}
use Rattle.sip_resolver.proofs.waiting_queue.WaitingQueue.push.Goals as goal

pub invariant_of-self : goal.invariant_of-self
invariant_of-self g c =
    let it = c.self.inside in
    let few = rw (← c.self.view_is) at c.requires in
    queued-more it.slots c.make_room-self-inside.new.self c.push.new.self it.head c.make_room-self-inside.result it.count it.room c.args.waiting
    c.self.invariant few c.make_room-self-inside.ensures.items c.make_room-self-inside.ensures.slots.1 c.make_room-self-inside.ensures.head.0
    c.make_room-self-inside.ensures.head.1 c.push.ensures

pub returns : goal.returns
returns g c =
    let all = ap (λ (q : Queued SlotView). items_of q.items) c.push.ensures
    ∙ items-more c.make_room-self-inside.new.self.items c.args.waiting in
    rw (← c.self.view_is, all, c.make_room-self-inside.ensures.items) refl
