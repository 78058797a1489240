use Rattle.answer_cache.specs.Shared.{Belongs}
use Rattle.benchmarks.proofs.look_ups.work.Given as goal

abbrev pub invariant-lookups : goal.invariant-lookups
invariant-lookups g l = Belongs l.cache l.seat
