use Rattle.std.proofs.Common.{◌≡◌, [], ◌∷◌, ◌++◌, ap, refl, ◌∙◌}
use Rattle.sip_resolver.proofs.Restarting.{changed-early, changed-not, changed-on, changed-over, only-ready}
use Rattle.sip_resolver.specs.Requests.{RequestsView, requests_of}
use Rattle.sip_resolver.specs.Restarts.{anew}
use Rattle.sip_resolver.proofs.restarts.restart_ready.Goals as goal

pub tasks-init : goal.tasks-init
tasks-init g c = record { changed = changed-not anew c.args.requests.now.ready; others = refl }

pub tasks-preserved : goal.tasks-preserved
tasks-preserved g c =
    let first = c.args.requests.now in
    let old = c.tasks.requests in
    let middle = c.next_ready.new.self in
    let new = c.add.new.self in
    let less = rw c.ready_len-task-end.ensures at c.tasks-test.true in
    let back = rw c.begin_anew.ensures at c.add.ensures in
    let last : new.ready ≡ middle.ready ++ anew c.in-Some.task ∷ [] = ap (λ (v : RequestsView). v.ready) back in
    record {
      changed = changed-on anew first.ready old.ready middle.ready new.ready c.in-Some.task c.tasks._task
          c.tasks.invariant.changed c.in-Some.ensures.first less last;
      others = only-ready first old middle new c.in-Some.task c.tasks.invariant.others c.in-Some.ensures back;
    }

pub returns-in-None : goal.returns-in-None
returns-in-None g c =
    let less = rw c.ready_len-task-end.ensures at c.tasks-test.true in
    absurd
    (changed-early anew c.args.requests.now.ready c.tasks.requests.ready c.tasks._task c.tasks.invariant.changed
    c.in-None.ensures.0 less)

pub returns : goal.returns
returns g c =
    let first = c.args.requests.now in
    let all = rw c.ready_len-task-end.ensures at c.tasks-test.false in
    c.tasks.invariant.others
    ∙ ap (λ l. requests_of l first.held first.waiting first.ended first.limit)
    (changed-over anew first.ready c.tasks.requests.ready c.tasks._task c.tasks.invariant.changed all)
