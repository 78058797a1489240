use Rattle.std.proofs.Common.{map, [], ◌++◌, ap, ◌∙◌}
use Rattle.sip_resolver.proofs.Restarting.{all-anew}
use Rattle.sip_resolver.specs.Requests.{RequestsView}
use Rattle.sip_resolver.specs.Restarts.{anew, task_of_waiting}
use Rattle.sip_resolver.proofs.restarts.restart_all.Goals as goal

pub returns : goal.returns
returns g c =
    c.restart_waiting.ensures
    ∙ ap
    (λ (v : RequestsView).
    record v { ready = v.ready ++ map anew (map task_of_waiting v.waiting); waiting = [] })
    c.restart_held.ensures
    ∙ ap
    (λ (v : RequestsView).
    record v {
      ready = v.ready ++ map anew v.held ++ map anew (map task_of_waiting v.waiting);
      held = [];
      waiting = [];
    })
    c.restart_ready.ensures
    ∙ all-anew c.args.requests.now
