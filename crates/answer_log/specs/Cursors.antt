-- A cursor along the placed nodes of a group, from the last one to the first.
use Rattle.std.specs.Prelude.{◌≡◌, ℕ, List, ◌++◌}
use Rattle.answer_log.specs.Histories.{in_group}
use Rattle.answer_log.specs.Logs.{groups_in, history, top}
use Rattle.answer_log.specs.declared.event.Event.{Event}
use Rattle.answer_log.specs.declared.store.Store.{Store}
use Rattle.answer_log.specs.declared.cursor.Cursor.{Cursor}

-- The nodes ahead of a cursor are those of its group that were placed up to some moment. These are
-- their stores, and the next node is the last one.
pub record Ahead (cursor : Cursor) (left : List Store) : Type 0 where
  pub group : ℕ
  pub front : List Event
  pub back : List Event
  pub split : cursor.seen.log ≡ front ++ back
  pub at : cursor.next ≡ top (groups_in cursor.seen.log) group front
  pub stores : left ≡ in_group (groups_in cursor.seen.log) group (history front)
