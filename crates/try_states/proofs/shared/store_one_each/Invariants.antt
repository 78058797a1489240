use Rattle.std.specs.List.{All}
use Rattle.answer_cache.specs.Shared.{Belongs}
use Rattle.try_states.proofs.shared.store_one_each.Given as goal

abbrev pub invariant-seats : goal.invariant-seats
invariant-seats g l = record {
  left : All (Belongs l.cache) l.left.items;
  done : All (Belongs l.cache) l.done.items;
}
