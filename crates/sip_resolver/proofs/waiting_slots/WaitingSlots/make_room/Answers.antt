use Rattle.std.proofs.Common.{refl, arith}
use Rattle.sip_resolver.proofs.Slotting.{by-kept, items-kept, kept-long}
use Rattle.sip_resolver.specs.Requests.{number_of_waiting}
use Rattle.sip_resolver.specs.WaitingQueues.{id_of}
use Rattle.sip_resolver.proofs.waiting_slots.WaitingSlots.make_room.Goals as goal

pub invariant_of-self : goal.invariant_of-self
invariant_of-self g c =
    let it = c.self.inside in
    record {
      by_id = by-kept id_of it.slots it.ids c.self.invariant.by_id _ _ c.keep_taken.ensures c.keep_taken-2.ensures;
      by_number = by-kept number_of_waiting it.slots it.numbers c.self.invariant.by_number _ _ c.keep_taken.ensures c.keep_taken-3.ensures;
    }

pub returns-clause-items : goal.returns-clause-items
returns-clause-items g c = rw (← c.self.view_is, c.keep_taken.ensures) (items-kept c.self.inside.slots.items)

pub returns-clause-slots : goal.returns-clause-slots
returns-clause-slots g c =
    let few = rw (← c.self.view_is) at c.requires.few in
    let long = kept-long c.self.inside.slots.items in
    rw (← c.self.view_is, c.keep_taken.ensures) (omega (arith, few, long), refl)
