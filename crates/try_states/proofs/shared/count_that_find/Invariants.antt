use Rattle.std.specs.List.{All}
use Rattle.answer_cache.specs.Shared.{Belongs}
use Rattle.try_states.proofs.shared.count_that_find.Given as goal

abbrev pub invariant-seats : goal.invariant-seats
invariant-seats l = record {
  last : Belongs l.cache l.last;
  seats : All (Belongs l.cache) l.seats.items;
}
