-- How a entries keeps its entries.
use Rattle.std.specs.Prelude.{◌≡◌, List, None}
use Rattle.pending_list.specs.declared.linked_list.LinkedList.TheInside.{Inside}
use Rattle.pending_list.specs.Cells.{Cell}
use Rattle.pending_list.specs.Links.{entries_of, head_or, last_or, AreLinked, AreDistinct, addresses}

module _ {E : Type 0} where
  abbrev pub entries_in : Inside E → List (Cell E)
  entries_in it = entries_of it.nodes.cells

  pub record IsKept (it : Inside E) : Type 0 where
    pub linked : AreLinked None it.nodes.cells None
    pub first : it.first ≡ head_or None it.nodes.cells
    pub last : it.last ≡ last_or None it.nodes.cells
    pub apart : AreDistinct (addresses it.nodes.cells)
