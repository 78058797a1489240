use Rattle.std.proofs.Common.{◌≡◌, ◌*◌}
use Rattle.answer_log.specs.Groups.{group_limit}
use Rattle.answer_log.specs.Handles.{SeesMore, spent_of}
use Rattle.answer_log.specs.Logs.{history}
use Rattle.answer_cache.specs.Carried.{IsCarriedOf, offers_in}
use Rattle.answer_cache.specs.Nodes.{Costs, Holds}
use Rattle.answer_cache.proofs.shared_cache.SharedCache.carry_groups.Given as goal

abbrev pub invariant-groups : goal.invariant-groups
invariant-groups l = record {
  holds : Holds l.self.book l.fn.handle l.handle;
  seen : SeesMore l.fn.handle.number l.fn.handle.book.log l.handle.book.log;
  node_count : l.handle.node_count ≡ l.fn.handle.node_count;
  carried : IsCarriedOf l.self.groups l.group (history l.fn.handle.book.log) (history l.handle.book.log) l.now (offers_in l.entries.items);
  costs : Costs (spent_of l.fn.handle) (spent_of l.handle) (l.group * group_limit) 0;
}
