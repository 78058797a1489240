use Rattle.std.proofs.Common.{refl, arith}
use Rattle.std.proofs.lemmas.Option.{slice_get_within}
use Rattle.sip_resolver.proofs.Lining.{first-out, queued-less, some-wait}
use Rattle.sip_resolver.proofs.waiting_queue.WaitingQueue.pop.Goals as goal

pub overflow_sub-self : goal.overflow_sub-self
overflow_sub-self g c =
    let it = c.self.inside in
    some-wait c.in_ok-place.place c.in_ok-waiting.waiting it.slots c.take.new.self c.in_ok-waiting.ensures it.head it.count it.room
    c.self.invariant

pub invariant_of-self-2 : goal.invariant_of-self-2
invariant_of-self-2 g c =
    let it = c.self.inside in
    let first = c.in_ok-place.ensures in
    let within = slice_get_within it.slots.items c.in_ok-place.place _ first.waits.1 in
    queued-less c.in_ok-place.place c.in_ok-waiting.waiting it.slots c.take.new.self c.in_ok-waiting.ensures it.head
    c.in_ok-place.place it.count it.room c.self.invariant (omega (arith, within)) first.none_before

pub returns : goal.returns
returns g c =
    rw (← c.self.view_is) (
      first-out c.in_ok-place.place c.in_ok-waiting.waiting c.self.inside.slots c.take.new.self c.in_ok-waiting.ensures
          c.in_ok-place.ensures.none_before,
      refl,
    )
