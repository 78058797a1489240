use Rattle.std.specs.Prelude.{⊤}
use Rattle.sip_resolver.specs.Requests.{Stand}
use Rattle.rolling_cache.specs.Rolling.{IsSeatOf}
use Rattle.benchmarks.proofs.proxy.desk.resolve_share.Given as goal

abbrev pub invariant-requests : goal.invariant-requests
invariant-requests g l = record {
  at : IsSeatOf l.cache l.seat;
  stand : Stand (λ _. ⊤) (λ _. ⊤) l.seat.seat.seat l.resolver.requests;
}
