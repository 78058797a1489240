use Rattle.std.proofs.Common.{◌≡◌, List}
use Rattle.answer_log.specs.Handles.{IsSame, spent_of}
use Rattle.answer_log.specs.Cursors.{Ahead}
use Rattle.answer_log.specs.declared.store.Store.{Store}
use Rattle.answer_cache.specs.Nodes.{Costs}
use Rattle.answer_cache.proofs.Lookups.{Passes}
use Rattle.answer_cache.proofs.shared_cache.SharedCache.has_ahead.Given as goal

abbrev pub invariant-stores : goal.invariant-stores
invariant-stores l = record {
  books : (l.cursor.seen.book ≡ l.self.book) × (l.handle.book.book ≡ l.self.book);
  same : IsSame l.fn.handle l.handle;
  passes : (whole : List Store) → Ahead l.fn.cursor whole → Passes whole l.cursor l._store;
  costs : Costs (spent_of l.fn.handle) (spent_of l.handle) l._store 0;
}
