use Rattle.rolling_cache.specs.Rolling.{IsSeatOf}
use Rattle.benchmarks.proofs.workers.rolling.resolve_all.Given as goal

abbrev pub invariant-batches : goal.invariant-batches
invariant-batches g l = IsSeatOf l.cache l.seat
