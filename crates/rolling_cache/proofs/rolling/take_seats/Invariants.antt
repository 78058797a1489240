use Rattle.std.proofs.Common.{◌≡◌, length}
use Rattle.std.specs.List.{All}
use Rattle.rolling_cache.specs.Rolling.{IsFreshAt}
use Rattle.rolling_cache.proofs.rolling.take_seats.Given as goal

abbrev pub invariant-seats : goal.invariant-seats
invariant-seats l =
    (l.present.generation ≡ l.initial.present.generation)
    × All (IsFreshAt l.initial.present.generation) l.made.items
    × (length l.made.items ≡ l._seat)
