use Rattle.std.specs.Prelude.{⊤}
use Rattle.sip_resolver.specs.Requests.{Stand}
use Rattle.rolling_cache.specs.Rolling.{IsSeatOf}
use Rattle.benchmarks.proofs.proxy.desk.hear_late.Given as goal

abbrev pub invariant-replies : goal.invariant-replies
invariant-replies g l = record {
  at : IsSeatOf l.cache l.seat;
  stand : Stand (λ _. ⊤) (λ _. ⊤) l.seat.seat.seat l.resolver.requests;
}
