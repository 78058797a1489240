use Rattle.rolling_cache.specs.Rolling.{IsSeatOf}
use Rattle.try_calls.proofs.rolling.two_talk.Given as goal

abbrev pub invariant-lines : goal.invariant-lines
invariant-lines g l = record {
  first : IsSeatOf l.cache l.first;
  second : IsSeatOf l.cache l.second;
}
