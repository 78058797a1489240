use Rattle.sip_resolver.proofs.Slotting.{found-by}
use Rattle.sip_resolver.specs.Requests.{number_of_waiting}
use Rattle.sip_resolver.proofs.waiting_slots.WaitingSlots.find_number.Goals as goal

pub returns : goal.returns
returns g c =
    let it = c.self.inside in
    rw (← c.self.view_is)
    (found-by number_of_waiting c.args.number it.slots it.numbers c.self.invariant.by_number c.find.result c.find.ensures)
