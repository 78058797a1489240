-- What a walk has left. No public clause cites this module.
use Rattle.std.specs.Prelude.{List}
use Rattle.pending_list.specs.Entries.{Entry}
use Rattle.pending_list.specs.declared.iter.Iter.TheInside.{Inside}
use Rattle.pending_list.specs.Cells.{address_of, values}
use Rattle.pending_list.specs.Links.{AreDistinct, IsThere, cells_from, addresses}

module _ {T : Type 0} where
  abbrev pub left_of : Inside T → List (Entry T)
  left_of it = values (cells_from (address_of it.next) it.entries.now)

  -- the nodes of the list are distinct, and the next node of a walk is one of them, or there is
  -- none
  pub record IsIter (it : Inside T) : Type 0 where
    pub apart : AreDistinct (addresses it.entries.now)
    pub there : IsThere it.next it.entries.now
