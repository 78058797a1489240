use Rattle.std.proofs.Common.{◌≡◌}
use Rattle.sip_resolver.proofs.Restarting.{Changed}
use Rattle.sip_resolver.specs.Restarts.{anew}
use Rattle.sip_resolver.proofs.restarts.restart_ready.Given as goal

abbrev pub invariant-tasks : goal.invariant-tasks
invariant-tasks g l = record {
  changed : Changed anew l.fn.requests.ready l.requests.ready l._task;
  others : l.requests ≡ record l.fn.requests { ready = l.requests.ready };
}
