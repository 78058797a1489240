use Rattle.sip_resolver.proofs.Slotting.{untils-of}
use Rattle.sip_resolver.proofs.waiting_slots.WaitingSlots.next_until.Goals as goal

pub returns : goal.returns
returns g c = rw (← c.self.view_is) (rw (untils-of c.self.inside.slots.items) at c.next_until.ensures)
