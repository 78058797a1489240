use Rattle.rolling_cache.specs.Rolling.{IsSeatOf}
use Rattle.try_calls.proofs.rolling.ask_all.Given as goal

abbrev pub invariant-times : goal.invariant-times
invariant-times g l = IsSeatOf l.cache l.seat
