use Rattle.std.proofs.Common.{sym, ap, ◌∙◌}
use Rattle.pending_list.specs.Cells.{address_of}
use Rattle.pending_list.proofs.Linking.{last-place, last-entries}
use Rattle.pending_list.proofs.linked_list.LinkedList.last.Goals as goal

pub returns : goal.returns
returns g c = rw (← c.self.view_is)
    (ap address_of c.self.invariant.last ∙ last-place c.self.inside.nodes.cells ∙ sym (last-entries c.self.inside.nodes.cells))
