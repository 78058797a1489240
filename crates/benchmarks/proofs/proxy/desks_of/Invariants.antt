use Rattle.std.specs.List.{All}
use Rattle.rolling_cache.specs.Rolling.{IsSeatOf}
use Rattle.benchmarks.proofs.proxy.desks_of.Given as goal

abbrev pub invariant-seats : goal.invariant-seats
invariant-seats l = All (IsSeatOf l.cache) l.seat-iterator.rest.items
