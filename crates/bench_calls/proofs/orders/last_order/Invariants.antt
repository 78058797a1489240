use Rattle.std.proofs.Common.{◌≡◌, ℕ, IfSome}
use Rattle.srv_choice.specs.Outcomes.{order_from}
use Rattle.srv_choice.specs.declared.outcome.SrvOutcome.TheVariants.{Listed}
use Rattle.bench_calls.proofs.orders.last_order.Given as goal

-- What the last round gave is an order of the servers by the words.
abbrev pub invariant-loop-round : goal.invariant-loop-round
invariant-loop-round l = IfSome l.last (λ places. (from : ℕ) × (next : ℕ)
    × (order_from l.servers l.words.0 from ≡ Listed places next))
