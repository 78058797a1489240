use Rattle.std.proofs.Common.{ap, refl}
use Rattle.sip_resolver.proofs.Kept.{taken-counted, taken-there, waiting-taken}
use Rattle.sip_resolver.proofs.Waiters.{out-of-place}
use Rattle.sip_resolver.specs.Requests.{requests_of}
use Rattle.sip_resolver.specs.Tasks.{WaitingView}
use Rattle.sip_resolver.proofs.requests.Requests.next_waiting_for.Goals as goal

pub remove-requires : goal.remove-requires
remove-requires g c =
    let it = c.self.inside in
    rw c.its_until.ensures
    (taken-counted it.ready it.held it.waiting it.ended it.limit it.earliest it.numbers c.self.invariant c.args.id
    c.in_ok-waiting.waiting c.take_first_for.new.self c.in_ok-waiting.ensures)

pub remove-requires-2 : goal.remove-requires-2
remove-requires-2 g c =
    let it = c.self.inside in
    rw c.number.ensures
    (taken-there it.ready it.held it.waiting it.ended it.limit it.earliest it.numbers c.self.invariant c.args.id
    c.in_ok-waiting.waiting c.take_first_for.new.self c.in_ok-waiting.ensures)

pub invariant_of-self-2 : goal.invariant_of-self-2
invariant_of-self-2 g c =
    let it = c.self.inside in
    let removed = rw c.its_until.ensures at c.remove.ensures in
    let struck = rw c.number.ensures at c.remove-2.ensures in
    waiting-taken it.ready it.held it.waiting it.ended it.limit it.earliest it.numbers c.self.invariant c.args.id
    c.in_ok-waiting.waiting c.take_first_for.new.self c.in_ok-waiting.ensures c.remove.new.self c.remove-2.new.self removed struck

pub returns : goal.returns
returns g c =
    let it = c.self.inside in
    rw (← c.self.view_is, ap (λ (w : WaitingView). w.task) c.waiting.view_is)
    (out-of-place c.args.id (requests_of it.ready.items it.held.items it.waiting.items it.ended.items it.limit) _
    c.in_ok-waiting.waiting it.waiting c.take_first_for.new.self c.in_ok-waiting.ensures refl refl c.self.invariant.room.few)
