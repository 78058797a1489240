use Rattle.sip_resolver.proofs.Restarting.{fewer-held, holding-not, holding-on, holding-over}
use Rattle.sip_resolver.proofs.restarts.restart_held.Goals as goal

pub tasks-init : goal.tasks-init
tasks-init g c = holding-not c.args.requests.now

pub tasks-preserved : goal.tasks-preserved
tasks-preserved g c =
    holding-on c.args.requests.now c.tasks.requests c.next_held.new.self c.add.new.self c.in-Some.task c.tasks.invariant
    c.in-Some.ensures (rw (c.begin_anew.ensures, c.of.ensures) at c.add.ensures)

pub tasks-smaller : goal.tasks-smaller
tasks-smaller g c =
    fewer-held c.args.requests.now c.tasks.requests c.next_held.new.self c.add.new.self c.in-Some.task c.tasks.invariant
    c.in-Some.ensures (rw (c.begin_anew.ensures, c.of.ensures) at c.add.ensures)

pub returns : goal.returns
returns g c =
    rw c.in_default.ensures.1
    (holding-over c.args.requests.now c.tasks.requests c.tasks.invariant c.in_default.ensures.0)
