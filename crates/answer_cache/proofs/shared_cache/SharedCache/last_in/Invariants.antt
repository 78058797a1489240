use Rattle.std.proofs.Common.{◌≡◌, ◌≤◌, length, List}
use Rattle.answer_log.specs.declared.store.Store.{Store}
use Rattle.answer_cache.specs.Indexes.{TellsAll}
use Rattle.answer_cache.proofs.Indexing.{Searches}
use Rattle.answer_cache.proofs.shared_cache.SharedCache.last_in.Given as goal

abbrev pub invariant-loop-left : goal.invariant-loop-left
invariant-loop-left l = record {
  handle : l.handle ≡ l.fn.handle;
  few : length l.left ≤ length l.index.entries.items;
  searches : (stores : List Store) → TellsAll l.index.seen.log l.index.entries.items stores
      → Searches l.asked.question.now l.index.seen.log l.left stores;
}

abbrev pub decreases-loop-left : goal.decreases-loop-left
decreases-loop-left l = length l.left
