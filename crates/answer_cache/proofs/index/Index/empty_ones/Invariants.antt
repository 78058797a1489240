use Rattle.answer_cache.specs.Indexes.{AreIndexes}
use Rattle.answer_cache.proofs.index.Index.empty_ones.Given as goal

abbrev pub invariant-groups : goal.invariant-groups
invariant-groups l = AreIndexes l.groups l.seen.book l.made.items
