use Rattle.std.specs.Prelude.{⊤}
use Rattle.answer_cache.specs.Seats.{SeatView}
use Rattle.sip_resolver.specs.Requests.{Stand}
use Rattle.proxy_example.proofs.proxy.tell_outcomes.Given as goal

abbrev pub invariant-outcomes : goal.invariant-outcomes
invariant-outcomes g l =
    (seat : SeatView) → Stand (λ _. ⊤) (λ _. ⊤) seat l.fn.core.requests → Stand (λ _. ⊤) (λ _. ⊤) seat l.core.requests
