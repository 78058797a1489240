use Rattle.std.proofs.Common.{◌≡◌, take}
use Rattle.answer_log.specs.Histories.{mine}
use Rattle.answer_log.specs.Logs.{history}
use Rattle.answer_cache.specs.Carried.{carried_stores}
use Rattle.answer_cache.specs.Nodes.{Holds}
use Rattle.answer_cache.proofs.shared_cache.SharedCache.restore.Given as goal

abbrev pub invariant-entries : goal.invariant-entries
invariant-entries g l = record {
  holds : Holds l.self.book l.fn.handle l.handle;
  own : mine (history l.handle.book.log) 0 ≡ take l.at (carried_stores l.carried.offers);
}
