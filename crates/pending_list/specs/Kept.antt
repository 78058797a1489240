-- How a list keeps its entries. No public clause cites this module.
use Rattle.std.specs.Prelude.{◌≡◌, ◌+◌, length}
use Rattle.pending_list.specs.declared.list.PendingList.TheInside.{Inside}
use Rattle.pending_list.specs.Cells.{values}
use Rattle.pending_list.specs.Links.{AreDistinct, addresses}
use Rattle.pending_list.specs.Pending.{Pending, IsPending}
use Rattle.pending_list.specs.Table.{IsTable}

module _ {T : Type 0} where
  abbrev pub list_of : Inside T → Pending T
  list_of it = record { entries = values it.entries; limit = it.limit; serial = it.serial }

  -- what holds of the list, of where its entries lie and of the table that leads to them
  pub record IsKept (it : Inside T) : Type 0 where
    pub is : IsPending (list_of it)
    pub apart : AreDistinct (addresses it.entries)
    pub table : IsTable it.table.slots it.entries
    pub long : length it.table.slots ≡ it.limit
    pub len : it.len ≡ length it.entries
    pub count : length it.table.free + length it.entries ≡ it.limit
