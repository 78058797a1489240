use Rattle.sip_resolver.proofs.Slotting.{by-less, within-too}
use Rattle.sip_resolver.specs.Requests.{number_of_waiting}
use Rattle.sip_resolver.specs.WaitingQueues.{id_of}
use Rattle.sip_resolver.proofs.waiting_slots.WaitingSlots.take.Goals as goal

pub leave-requires : goal.leave-requires
leave-requires g c =
    let it = c.self.inside in
    within-too id_of it.slots it.ids c.self.invariant.by_id c.args.place (rw (← c.self.view_is) at c.requires.within)

pub leave-requires-2 : goal.leave-requires-2
leave-requires-2 g c =
    let it = c.self.inside in
    within-too number_of_waiting it.slots it.numbers c.self.invariant.by_number c.args.place
    (rw (← c.self.view_is) at c.requires.within)

pub invariant_of-self-2 : goal.invariant_of-self-2
invariant_of-self-2 g c =
    let it = c.self.inside in
    let out = c.in_ok-waiting.ensures in
    record {
      by_id = by-less id_of it.slots it.ids c.self.invariant.by_id c.args.place c.in_ok-waiting.waiting.id _ _ out.left c.leave.ensures;
      by_number = by-less number_of_waiting it.slots it.numbers c.self.invariant.by_number c.args.place c.in_ok-waiting.waiting.id _ _ out.left
          c.leave-2.ensures;
    }
