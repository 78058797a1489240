use Rattle.std.proofs.Common.{sym, ap, ◌∙◌}
use Rattle.pending_list.specs.Cells.{address_of}
use Rattle.pending_list.proofs.Linking.{head-place, first-entries}
use Rattle.pending_list.proofs.linked_list.LinkedList.first.Goals as goal

pub returns : goal.returns
returns g c = rw (← c.self.view_is)
    (ap address_of c.self.invariant.first ∙ head-place c.self.inside.nodes.cells ∙ sym (first-entries c.self.inside.nodes.cells))
