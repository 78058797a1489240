use Rattle.std.proofs.Common.{ap}
use Rattle.sip_resolver.proofs.Restarting.{fewer-waiting, waking-not, waking-on, waking-over}
use Rattle.sip_resolver.specs.Tasks.{WaitingView}
use Rattle.sip_resolver.proofs.restarts.restart_waiting.Goals as goal

pub waits-init : goal.waits-init
waits-init g c = waking-not c.args.requests.now

pub waits-preserved : goal.waits-preserved
waits-preserved g c =
    let its = ap (λ (w : WaitingView). w.task) c.waiting.view_is in
    waking-on c.args.requests.now c.waits.requests c.next_waiting.new.self c.add.new.self c.in-Some.waiting c.waits.invariant
    c.in-Some.ensures (rw (c.begin_anew.ensures, c.of.ensures, its) at c.add.ensures)

pub waits-smaller : goal.waits-smaller
waits-smaller g c =
    let its = ap (λ (w : WaitingView). w.task) c.waiting.view_is in
    fewer-waiting c.args.requests.now c.waits.requests c.next_waiting.new.self c.add.new.self c.in-Some.waiting
    c.waits.invariant c.in-Some.ensures (rw (c.begin_anew.ensures, c.of.ensures, its) at c.add.ensures)

pub returns : goal.returns
returns g c =
    rw c.in_default.ensures.1
    (waking-over c.args.requests.now c.waits.requests c.waits.invariant c.in_default.ensures.0)
