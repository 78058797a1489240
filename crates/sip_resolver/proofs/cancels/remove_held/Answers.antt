use Rattle.std.proofs.Common.{not, nat_eq, ap, refl, ◌∙◌}
use Rattle.sip_resolver.proofs.Cancelling.{only-held}
use Rattle.sip_resolver.proofs.Circling.{circled-early, circled-not, circled-on, circled-over}
use Rattle.sip_resolver.specs.Requests.{RequestsView, requests_of}
use Rattle.sip_resolver.specs.Tasks.{TaskView}
use Rattle.sip_resolver.proofs.cancels.remove_held.Goals as goal

pub tasks-init : goal.tasks-init
tasks-init g c = record {
  circled = circled-not (λ (it : TaskView). not (nat_eq it.number c.args.number)) c.args.requests.now.held;
  others = refl;
}

pub tasks-preserved : goal.tasks-preserved
tasks-preserved g c =
    let first = c.args.requests.now in
    let old = c.tasks.requests in
    let middle = c.next_held.new.self in
    let new = c.hold_other.new.requests in
    let less = rw c.held_len-task-end.ensures at c.tasks-test.true in
    record {
      circled = circled-on (λ (it : TaskView). not (nat_eq it.number c.args.number)) first.held old.held middle.held new.held
          c.in-Some.task c.tasks._task c.tasks.invariant.circled
          c.in-Some.ensures.first less (ap (λ (v : RequestsView). v.held) c.hold_other.ensures);
      others = only-held c.args.number first old middle new c.in-Some.task c.tasks.invariant.others c.in-Some.ensures c.hold_other.ensures;
    }

pub returns-in-None : goal.returns-in-None
returns-in-None g c =
    let less = rw c.held_len-task-end.ensures at c.tasks-test.true in
    absurd
    (circled-early (λ (it : TaskView). not (nat_eq it.number c.args.number)) c.args.requests.now.held c.tasks.requests.held
    c.tasks._task c.tasks.invariant.circled c.in-None.ensures.0 less)

pub returns : goal.returns
returns g c =
    let first = c.args.requests.now in
    let all = rw c.held_len-task-end.ensures at c.tasks-test.false in
    c.tasks.invariant.others
    ∙ ap (λ l. requests_of first.ready l first.waiting first.ended first.limit)
    (circled-over (λ (it : TaskView). not (nat_eq it.number c.args.number)) first.held c.tasks.requests.held c.tasks._task
    c.tasks.invariant.circled all)
