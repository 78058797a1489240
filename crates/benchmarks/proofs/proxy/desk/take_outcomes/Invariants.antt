use Rattle.std.specs.Prelude.{⊤}
use Rattle.answer_cache.specs.Seats.{SeatView}
use Rattle.sip_resolver.specs.Requests.{Stand}
use Rattle.benchmarks.proofs.proxy.desk.take_outcomes.Given as goal

abbrev pub invariant-outcomes : goal.invariant-outcomes
invariant-outcomes l =
    (seat : SeatView) → Stand (λ _. ⊤) (λ _. ⊤) seat l.fn.resolver.requests → Stand (λ _. ⊤) (λ _. ⊤) seat l.resolver.requests
