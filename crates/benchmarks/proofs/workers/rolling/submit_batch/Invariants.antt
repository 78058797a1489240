use Rattle.std.specs.Prelude.{⊤}
use Rattle.answer_cache.specs.Seats.{SeatView}
use Rattle.sip_resolver.specs.Requests.{Stand}
use Rattle.benchmarks.proofs.workers.rolling.submit_batch.Given as goal

abbrev pub invariant-numbers : goal.invariant-numbers
invariant-numbers l =
    (seat : SeatView) → Stand (λ _. ⊤) (λ _. ⊤) seat l.fn.resolver.requests → Stand (λ _. ⊤) (λ _. ⊤) seat l.resolver.requests
