use Rattle.std.proofs.Common.{ap, refl}
use Rattle.sip_resolver.proofs.Kept.{waiting-counted, waiting-less, waiting-there}
use Rattle.sip_resolver.proofs.Waiters.{numbered-out}
use Rattle.sip_resolver.specs.Queues.{Queued}
use Rattle.sip_resolver.specs.Requests.{requests_of}
use Rattle.sip_resolver.specs.Tasks.{WaitingView}
use Rattle.sip_resolver.proofs.requests.Requests.next_numbered.Goals as goal

pub remove-requires : goal.remove-requires
remove-requires g c =
    let it = c.self.inside in
    let out = c.in_ok-waiting.ensures in
    rw c.its_until.ensures
    (waiting-counted it.ready it.held it.waiting it.ended it.limit it.earliest it.numbers c.self.invariant out.first out.later
    c.in_ok-waiting.waiting out.was)

pub remove-requires-2 : goal.remove-requires-2
remove-requires-2 g c =
    let it = c.self.inside in
    let out = c.in_ok-waiting.ensures in
    rw c.number.ensures
    (waiting-there it.ready it.held it.waiting it.ended it.limit it.earliest it.numbers c.self.invariant out.first out.later
    c.in_ok-waiting.waiting out.was)

pub invariant_of-self-2 : goal.invariant_of-self-2
invariant_of-self-2 g c =
    let it = c.self.inside in
    let out = c.in_ok-waiting.ensures in
    let removed = rw c.its_until.ensures at c.remove.ensures in
    let struck = rw c.number.ensures at c.remove-2.ensures in
    waiting-less it.ready it.held it.waiting it.ended it.limit it.earliest it.numbers c.self.invariant out.first out.later
    c.in_ok-waiting.waiting out.was c.take_numbered.new.self c.remove.new.self c.remove-2.new.self
    (ap (λ (q : Queued WaitingView). q.items) out.left) (ap (λ (q : Queued WaitingView). q.room) out.left) removed struck

pub returns : goal.returns
returns g c =
    let it = c.self.inside in
    rw (← c.self.view_is)
    (numbered-out c.args.number (requests_of it.ready.items it.held.items it.waiting.items it.ended.items it.limit) _
    c.in_ok-waiting.waiting it.waiting c.take_numbered.new.self c.in_ok-waiting.ensures refl refl c.self.invariant.room.few)
