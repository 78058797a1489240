-- How a table keeps its places: the stack has room for all of them. No public clause cites this
-- module.
use Rattle.std.specs.Prelude.{◌≤◌, length, vec_capacity}
use Rattle.pending_list.specs.declared.table.Table.TheInside.{Inside}
use Rattle.pending_list.specs.Slots.{AreFree, Slots}

module _ {E : Type 0} where
  abbrev pub slots_of : Inside E → Slots E
  slots_of it = record { slots = it.slots.items; free = it.free.items }

  pub record IsKept (it : Inside E) : Type 0 where
    pub free : AreFree it.slots.items it.free.items
    pub room : length it.slots.items ≤ vec_capacity it.free
