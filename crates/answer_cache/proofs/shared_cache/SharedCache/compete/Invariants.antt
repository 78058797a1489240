use Rattle.std.proofs.Common.{◌≡◌, ◌+◌, ◌*◌, ◌-◌, ◌<◌, ◌≤◌, List, length}
use Rattle.answer_log.specs.Handles.{IsHandle, SeesMore, spent_of}
use mathlib.Core.List.{IsPrefix}
use Rattle.answer_log.specs.Groups.{group_in, group_limit}
use Rattle.answer_log.specs.Logs.{history, top}
use Rattle.answer_log.specs.declared.event.Event.{Event}
use Rattle.answer_cache.specs.Nodes.{Costs, IsReady}
use Rattle.answer_cache.proofs.shared_cache.SharedCache.compete.Given as goal

abbrev pub invariant-tries : goal.invariant-tries
invariant-tries g l = record {
  least : 2 ≤ l.number;
  handle : IsHandle l.handle;
  number : (l.handle.number ≡ l.fn.handle.number) × (l.handle.seats ≡ l.fn.handle.seats)
      × (l.handle.groups ≡ l.fn.handle.groups);
  book : (l.handle.book.book ≡ l.self.book) × (l.pen.book ≡ l.self.book);
  names : l.handle.book.names ≡ l.fn.handle.book.names;
  ready : IsReady l.self.groups l.self.book l.handle.book.log l.handle.number l.node l.pen.nib;
  seen : SeesMore l.fn.handle.number l.fn.handle.book.log l.handle.book.log;
  count : (seen : List Event) → IsPrefix seen l.fn.handle.book.log
      → top l.self.groups (group_in l.self.groups l.fn.node.question) seen ≡ l.fn.old
      → length (history seen) + (l.number - 1) ≤ length (history l.handle.book.log);
  costs : Costs (spent_of l.fn.handle) (spent_of l.handle) ((l.number - 2) * group_limit) (l.number - 1);
  tried : (spent_of l.fn.handle).tries < (spent_of l.handle).tries;
}
