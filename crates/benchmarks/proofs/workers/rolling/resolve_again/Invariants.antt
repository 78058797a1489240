use Rattle.rolling_cache.specs.Rolling.{IsSeatOf}
use Rattle.benchmarks.proofs.workers.rolling.resolve_again.Given as goal

abbrev pub invariant-lives : goal.invariant-lives
invariant-lives g l = IsSeatOf l.cache l.seat
