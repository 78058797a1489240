use Rattle.rolling_cache.specs.Rolling.{IsSeatOf}
use Rattle.try_states.proofs.rolling.ask_all.Given as goal

abbrev pub invariant-lookups : goal.invariant-lookups
invariant-lookups g l = IsSeatOf l.cache l.seat
