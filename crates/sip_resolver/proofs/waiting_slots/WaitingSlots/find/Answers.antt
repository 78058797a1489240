use Rattle.sip_resolver.proofs.Slotting.{found-by}
use Rattle.sip_resolver.specs.WaitingQueues.{id_of}
use Rattle.sip_resolver.proofs.waiting_slots.WaitingSlots.find.Goals as goal

pub returns : goal.returns
returns g c =
    let it = c.self.inside in
    rw (← c.self.view_is) (found-by id_of c.args.id it.slots it.ids c.self.invariant.by_id c.find.result
    (rw c.from.ensures at c.find.ensures))
