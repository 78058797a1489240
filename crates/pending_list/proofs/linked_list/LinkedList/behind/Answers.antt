use Rattle.pending_list.proofs.Linking.{is-linked-list, there-entries, stands-before}
use Rattle.pending_list.proofs.linked_list.LinkedList.behind.Goals as goal

pub get-requires : goal.get-requires
get-requires g c = record { there = there-entries c.args.link.at c.self.inside.nodes.cells (rw c.self.view_is c.requires) }

pub returns : goal.returns
returns g c =
    let cells = c.self.inside.nodes.cells in
    let first = c.self.inside.first in
    let last = c.self.inside.last in
    let it = is-linked-list c.self.invariant.linked c.self.invariant.first c.self.invariant.last c.self.invariant.apart in
    rw (← c.self.view_is) (stands-before cells first last it c.args.link.at c.get.result.now c.get.ensures.value)
