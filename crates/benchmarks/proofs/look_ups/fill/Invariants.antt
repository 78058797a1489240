use Rattle.answer_cache.specs.Shared.{Belongs}
use Rattle.benchmarks.proofs.look_ups.fill.Given as goal

abbrev pub invariant-known : goal.invariant-known
invariant-known g l = Belongs l.cache l.seat
