use Rattle.std.proofs.Common.{◌≡◌, not, nat_eq}
use Rattle.sip_resolver.proofs.Circling.{Circled}
use Rattle.sip_resolver.proofs.cancels.remove_ready.Given as goal

abbrev pub invariant-tasks : goal.invariant-tasks
invariant-tasks g l = record {
  circled : Circled (λ it. not (nat_eq it.number l.number)) l.fn.requests.ready l.requests.ready l._task;
  others : l.requests ≡ record l.fn.requests { ready = l.requests.ready };
}
