use Rattle.std.proofs.Common.{ap}
use Rattle.sip_resolver.proofs.Cancelling.{one-less, removed-not, removed-on, removed-over}
use Rattle.sip_resolver.specs.Tasks.{WaitingView}
use Rattle.sip_resolver.proofs.cancels.remove_waiting.Goals as goal

pub waits-init : goal.waits-init
waits-init g c = removed-not c.args.number c.args.requests.now c.args.questions.now

pub waits-preserved : goal.waits-preserved
waits-preserved g c =
    let its = ap (λ (it : WaitingView). it.id) c.waiting.view_is in
    removed-on c.args.number c.waits.requests c.next_numbered.new.self c.in-Some.waiting c.in-Some.ensures
    c.args.requests.now c.args.questions.now c.waits.questions c.close_unawaited.new.questions c.waits.invariant
    (rw (← its) c.close_unawaited.ensures.awaited) (rw (← its) c.close_unawaited.ensures.left)

pub waits-smaller : goal.waits-smaller
waits-smaller g c = one-less c.args.number c.waits.requests c.next_numbered.new.self c.in-Some.waiting c.in-Some.ensures

pub returns-clause-requests : goal.returns-clause-requests
returns-clause-requests g c =
    rw c.in_default.ensures.1
    (removed-over c.args.number c.args.requests.now c.waits.requests c.args.questions.now c.waits.questions c.waits.invariant
    c.in_default.ensures.0)
