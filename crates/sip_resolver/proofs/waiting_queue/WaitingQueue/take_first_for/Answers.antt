use Rattle.std.proofs.Common.{refl}
use Rattle.std.proofs.lemmas.Option.{slice_get_within}
use Rattle.sip_resolver.proofs.Lining.{out-for, queued-less, some-wait}
use Rattle.sip_resolver.proofs.Waiters.{none-of-id}
use Rattle.sip_resolver.specs.WaitingQueues.{items_of}
use Rattle.sip_resolver.proofs.waiting_queue.WaitingQueue.take_first_for.Goals as goal

pub overflow_sub-self : goal.overflow_sub-self
overflow_sub-self g c =
    let it = c.self.inside in
    some-wait c.in_ok-place.place c.in_ok-waiting.waiting it.slots c.take.new.self c.in_ok-waiting.ensures it.head it.count it.room
    c.self.invariant

pub invariant_of-self-2 : goal.invariant_of-self-2
invariant_of-self-2 g c =
    let it = c.self.inside in
    let kept = c.self.invariant in
    queued-less c.in_ok-place.place c.in_ok-waiting.waiting it.slots c.take.new.self c.in_ok-waiting.ensures it.head
    it.head it.count it.room kept kept.head_within kept.none_before

pub returns : goal.returns
returns g c =
    let it = c.self.inside in
    rw (← c.self.view_is)
    (out-for c.in_ok-place.place c.in_ok-waiting.waiting it.slots c.take.new.self c.in_ok-waiting.ensures c.args.id it.room
    c.in_ok-place.ensures)

pub returns-in_err-place : goal.returns-in_err-place
returns-in_err-place g c =
    rw (c.from_residual.ensures, ← c.self.view_is) (none-of-id c.args.id (items_of c.self.inside.slots.items) c.in_err-place.ensures, refl)

pub take-requires-clause-within : goal.take-requires-clause-within
take-requires-clause-within g c =
    slice_get_within c.self.inside.slots.items c.in_ok-place.place _ c.in_ok-place.ensures.waits

pub take-requires-clause-waits : goal.take-requires-clause-waits
take-requires-clause-waits g c = (c.in_ok-place.ensures.it, c.in_ok-place.ensures.waits)
