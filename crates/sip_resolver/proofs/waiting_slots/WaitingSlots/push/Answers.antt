use Rattle.sip_resolver.proofs.Slotting.{by-more, room-too}
use Rattle.sip_resolver.specs.Requests.{number_of_waiting}
use Rattle.sip_resolver.specs.Tasks.{WaitingView}
use Rattle.sip_resolver.specs.WaitingQueues.{id_of}
use Rattle.sip_resolver.proofs.waiting_slots.WaitingSlots.push.Goals as goal

pub push-requires : goal.push-requires
push-requires g c =
    let it = c.self.inside in
    room-too id_of it.slots it.ids c.self.invariant.by_id (rw (← c.self.view_is) at c.requires)

pub push-requires-2 : goal.push-requires-2
push-requires-2 g c =
    let it = c.self.inside in
    room-too number_of_waiting it.slots it.numbers c.self.invariant.by_number (rw (← c.self.view_is) at c.requires)

pub invariant_of-self : goal.invariant_of-self
invariant_of-self g c =
    let it = c.self.inside in
    let last : WaitingView = record { id = c.waiting.inside.id; task = c.waiting.inside.task } in
    record {
      by_id = by-more id_of it.slots it.ids c.self.invariant.by_id last _ _ c.push-3.ensures
          (rw c.from.ensures at c.push.ensures);
      by_number = by-more number_of_waiting it.slots it.numbers c.self.invariant.by_number last _ _ c.push-3.ensures
          (rw c.number.ensures at c.push-2.ensures);
    }
