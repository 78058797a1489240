use Rattle.std.proofs.Common.{◌≡◌, Some, None, sym, ap, ◌∙◌}
use Rattle.std.specs.Option.{option_map}
use Rattle.pending_list.specs.Cells.{without}
use Rattle.pending_list.specs.Links.{next_set, next_first, prev_set, prev_last, entries_of, head_or, last_or}
use Rattle.pending_list.specs.declared.node.Node.{Node}
use Rattle.pending_list.proofs.Linking.{IsLinkedList, is-linked-list, there-entries, there-prev, there-next, rest, closed-cells, unlinked, entries-unlinked, value-entries}
use Rattle.pending_list.proofs.linked_list.LinkedList.unlink.Goals as goal

pub take-requires : goal.take-requires
take-requires g c = record { there = there-entries c.args.link.at c.self.inside.nodes.cells (rw c.self.view_is c.requires.there) }

pub set_next-requires : goal.set_next-requires
set_next-requires g c =
    let cs = c.self.inside.nodes.cells in let first = c.self.inside.first in let last = c.self.inside.last in let p = c.args.link.at in
    let it : IsLinkedList cs first last =
    is-linked-list c.self.invariant.linked c.self.invariant.first c.self.invariant.last c.self.invariant.apart in
    let n = c.take.result.value in let is = c.take.ensures.value in
    let prev : c.deref.result.now.prev ≡ n.prev = ap (λ (m : Node g.row.E.Denot). m.prev) (c.deref.ensures ∙ c.into_box-node.ensures) in
    let next : c.deref-2.result.now.next ≡ n.next = ap (λ (m : Node g.row.E.Denot). m.next) (c.deref-2.ensures ∙ c.into_box-node.ensures) in
    rw (prev, c.take.ensures.left) (there-prev cs first last it p n is)

pub set_prev-requires : goal.set_prev-requires
set_prev-requires g c =
    let cs = c.self.inside.nodes.cells in let first = c.self.inside.first in let last = c.self.inside.last in let p = c.args.link.at in
    let it : IsLinkedList cs first last =
    is-linked-list c.self.invariant.linked c.self.invariant.first c.self.invariant.last c.self.invariant.apart in
    let n = c.take.result.value in let is = c.take.ensures.value in
    let prev : c.deref.result.now.prev ≡ n.prev = ap (λ (m : Node g.row.E.Denot). m.prev) (c.deref.ensures ∙ c.into_box-node.ensures) in
    let next : c.deref-2.result.now.next ≡ n.next = ap (λ (m : Node g.row.E.Denot). m.next) (c.deref-2.ensures ∙ c.into_box-node.ensures) in
    let cells : c.set_next.new.nodes.cells ≡ next_set n.prev n.next (without p cs) =
    c.set_next.ensures.cells ∙ (λ j. next_set (prev j) (next j) (c.take.ensures.left j)) in
    rw (next, cells) (there-next cs first last it p n is)

pub invariant_of-self : goal.invariant_of-self
invariant_of-self g c =
    let cs = c.self.inside.nodes.cells in let first = c.self.inside.first in let last = c.self.inside.last in let p = c.args.link.at in
    let it : IsLinkedList cs first last =
    is-linked-list c.self.invariant.linked c.self.invariant.first c.self.invariant.last c.self.invariant.apart in
    let n = c.take.result.value in let is = c.take.ensures.value in
    let prev : c.deref.result.now.prev ≡ n.prev = ap (λ (m : Node g.row.E.Denot). m.prev) (c.deref.ensures ∙ c.into_box-node.ensures) in
    let next : c.deref-2.result.now.next ≡ n.next = ap (λ (m : Node g.row.E.Denot). m.next) (c.deref-2.ensures ∙ c.into_box-node.ensures) in
    let e : c.set_prev.new.nodes.cells ≡ rest cs first last it p n is =
    c.set_prev.ensures.cells
    ∙ (λ i. prev_set (next i) (prev i) ((c.set_next.ensures.cells ∙ (λ j. next_set (prev j) (next j) (c.take.ensures.left j))) i))
    ∙ closed-cells cs first last it p n is in
    let on = unlinked cs first last it p n is in
    record {
      linked = rw e on.linked;
      first = c.set_next.ensures.first ∙ (λ i. next_first (prev i) (next i) first) ∙ on.first_is ∙ ap (head_or None) (sym e);
      last = c.set_prev.ensures.last ∙ (λ i. prev_last (next i) (prev i) last) ∙ on.last_is ∙ ap (last_or None) (sym e);
      apart = rw e on.apart;
    }

pub returns-clause-value : goal.returns-clause-value
returns-clause-value g c =
    rw (← c.self.view_is) (value-entries c.args.link.at c.self.inside.nodes.cells ∙ ap (option_map (λ n. n.entry)) c.take.ensures.value
    ∙ ap (λ (m : Node g.row.E.Denot). Some m.entry) (sym c.into_box-node.ensures))

pub returns-clause-left : goal.returns-clause-left
returns-clause-left g c =
    let cs = c.self.inside.nodes.cells in let first = c.self.inside.first in let last = c.self.inside.last in let p = c.args.link.at in
    let it : IsLinkedList cs first last =
    is-linked-list c.self.invariant.linked c.self.invariant.first c.self.invariant.last c.self.invariant.apart in
    let n = c.take.result.value in let is = c.take.ensures.value in
    let prev : c.deref.result.now.prev ≡ n.prev = ap (λ (m : Node g.row.E.Denot). m.prev) (c.deref.ensures ∙ c.into_box-node.ensures) in
    let next : c.deref-2.result.now.next ≡ n.next = ap (λ (m : Node g.row.E.Denot). m.next) (c.deref-2.ensures ∙ c.into_box-node.ensures) in
    let e : c.set_prev.new.nodes.cells ≡ rest cs first last it p n is =
    c.set_prev.ensures.cells
    ∙ (λ i. prev_set (next i) (prev i) ((c.set_next.ensures.cells ∙ (λ j. next_set (prev j) (next j) (c.take.ensures.left j))) i))
    ∙ closed-cells cs first last it p n is in
    rw (← c.self.view_is) (ap entries_of e ∙ entries-unlinked cs first last it p n is)
