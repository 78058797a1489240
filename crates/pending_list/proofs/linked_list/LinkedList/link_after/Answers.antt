use Rattle.std.proofs.Common.{◌≡◌, Some, None, sym, ap, ◌∙◌}
use Rattle.std.specs.Option.{option_map}
use Rattle.pending_list.specs.Cells.{Cell, cell, put_after, address_of}
use Rattle.pending_list.specs.Links.{IsThere, first_after, next_set, prev_set, prev_last, entries_of, head_or, last_or}
use Rattle.pending_list.specs.declared.node.Node.{Node}
use Rattle.pending_list.proofs.Linking.{IsLinkedList, is-linked-list, there-of, there₁, there₂, done, done-cells, linked, entries-linked, value-entries}
use Rattle.pending_list.proofs.linked_list.LinkedList.link_after.Goals as goal

pub next_of-next-requires : goal.next_of-next-requires
next_of-next-requires g c =
    let asked : IsThere c.args.after (entries_of c.self.inside.nodes.cells) = rw c.self.view_is c.requires.there in
    there-of c.args.after c.self.inside.nodes.cells asked

pub set_next-requires : goal.set_next-requires
set_next-requires g c =
    let cs = c.self.inside.nodes.cells in let first = c.self.inside.first in let last = c.self.inside.last in let after = c.args.after in
    let it : IsLinkedList cs first last =
    is-linked-list c.self.invariant.linked c.self.invariant.first c.self.invariant.last c.self.invariant.apart in
    let asked : IsThere after (entries_of cs) = rw c.self.view_is c.requires.there in
    let there = there-of after cs asked in
    let d : Cell (Node g.row.E.Denot) = cell c.push-link.result.at c.of.result.value in
    let back_to : d.value.prev ≡ after =
    ap (λ (n : Node g.row.E.Denot). n.prev) c.of.ensures ∙ ap (λ (n : Node g.row.E.Denot). n.prev) c.deref_mut-2.ensures.value in
    let on_to : d.value.next ≡ first_after after first cs = ap (λ (n : Node g.row.E.Denot). n.next) c.of.ensures ∙ c.next_of-next.ensures in
    let fresh = c.push-link.ensures.fresh in
    rw c.push-link.ensures.put (there₁ cs first last after it there d fresh back_to on_to)

pub set_prev-requires : goal.set_prev-requires
set_prev-requires g c =
    let cs = c.self.inside.nodes.cells in let first = c.self.inside.first in let last = c.self.inside.last in let after = c.args.after in
    let it : IsLinkedList cs first last =
    is-linked-list c.self.invariant.linked c.self.invariant.first c.self.invariant.last c.self.invariant.apart in
    let asked : IsThere after (entries_of cs) = rw c.self.view_is c.requires.there in
    let there = there-of after cs asked in
    let d : Cell (Node g.row.E.Denot) = cell c.push-link.result.at c.of.result.value in
    let back_to : d.value.prev ≡ after =
    ap (λ (n : Node g.row.E.Denot). n.prev) c.of.ensures ∙ ap (λ (n : Node g.row.E.Denot). n.prev) c.deref_mut-2.ensures.value in
    let on_to : d.value.next ≡ first_after after first cs = ap (λ (n : Node g.row.E.Denot). n.next) c.of.ensures ∙ c.next_of-next.ensures in
    let fresh = c.push-link.ensures.fresh in
    rw (c.next_of-next.ensures, c.set_next.ensures.cells, c.push-link.ensures.put)
    (there₂ cs first last after it there d fresh back_to on_to)

pub invariant_of-self : goal.invariant_of-self
invariant_of-self g c =
    let cs = c.self.inside.nodes.cells in let first = c.self.inside.first in let last = c.self.inside.last in let after = c.args.after in
    let it : IsLinkedList cs first last =
    is-linked-list c.self.invariant.linked c.self.invariant.first c.self.invariant.last c.self.invariant.apart in
    let asked : IsThere after (entries_of cs) = rw c.self.view_is c.requires.there in
    let there = there-of after cs asked in
    let d : Cell (Node g.row.E.Denot) = cell c.push-link.result.at c.of.result.value in
    let back_to : d.value.prev ≡ after =
    ap (λ (n : Node g.row.E.Denot). n.prev) c.of.ensures ∙ ap (λ (n : Node g.row.E.Denot). n.prev) c.deref_mut-2.ensures.value in
    let on_to : d.value.next ≡ first_after after first cs = ap (λ (n : Node g.row.E.Denot). n.next) c.of.ensures ∙ c.next_of-next.ensures in
    let fresh = c.push-link.ensures.fresh in
    let e : c.set_prev.new.nodes.cells ≡ done cs first last after it there d fresh back_to on_to =
    c.set_prev.ensures.cells
    ∙ (λ i. prev_set (c.next_of-next.ensures i) (Some c.push-link.result)
    ((c.set_next.ensures.cells ∙ ap (next_set after (Some c.push-link.result)) c.push-link.ensures.put) i))
    ∙ done-cells cs first last after it there d fresh back_to on_to in
    let on = linked cs first last after it there d fresh back_to on_to in
    record {
      linked = rw e on.linked;
      first = c.set_next.ensures.first ∙ on.first_is ∙ ap (head_or None) (sym e);
      last = c.set_prev.ensures.last ∙ (λ i. prev_last (c.next_of-next.ensures i) (Some c.push-link.result) last) ∙ on.last_is
          ∙ ap (last_or None) (sym e);
      apart = rw e on.apart;
    }

pub returns-clause-put : goal.returns-clause-put
returns-clause-put g c =
    let cs = c.self.inside.nodes.cells in let first = c.self.inside.first in let last = c.self.inside.last in let after = c.args.after in
    let it : IsLinkedList cs first last =
    is-linked-list c.self.invariant.linked c.self.invariant.first c.self.invariant.last c.self.invariant.apart in
    let asked : IsThere after (entries_of cs) = rw c.self.view_is c.requires.there in
    let there = there-of after cs asked in
    let d : Cell (Node g.row.E.Denot) = cell c.push-link.result.at c.of.result.value in
    let back_to : d.value.prev ≡ after =
    ap (λ (n : Node g.row.E.Denot). n.prev) c.of.ensures ∙ ap (λ (n : Node g.row.E.Denot). n.prev) c.deref_mut-2.ensures.value in
    let on_to : d.value.next ≡ first_after after first cs = ap (λ (n : Node g.row.E.Denot). n.next) c.of.ensures ∙ c.next_of-next.ensures in
    let fresh = c.push-link.ensures.fresh in
    let e : c.set_prev.new.nodes.cells ≡ done cs first last after it there d fresh back_to on_to =
    c.set_prev.ensures.cells
    ∙ (λ i. prev_set (c.next_of-next.ensures i) (Some c.push-link.result)
    ((c.set_next.ensures.cells ∙ ap (next_set after (Some c.push-link.result)) c.push-link.ensures.put) i))
    ∙ done-cells cs first last after it there d fresh back_to on_to in
    let entry : c.of.result.value.entry ≡ c.args.node.value.entry =
    ap (λ (n : Node g.row.E.Denot). n.entry) c.of.ensures ∙ ap (λ (n : Node g.row.E.Denot). n.entry) c.deref_mut-2.ensures.value
    ∙ ap (λ (n : Node g.row.E.Denot). n.entry) c.deref_mut.ensures.value in
    rw (← c.self.view_is) (ap entries_of e ∙ entries-linked cs first last after it there d fresh back_to on_to
    ∙ ap (λ x. put_after (address_of after) (cell c.push-link.result.at x) (entries_of cs)) entry)

pub returns-clause-fresh : goal.returns-clause-fresh
returns-clause-fresh g c =
    rw (← c.self.view_is) (value-entries c.push-link.result.at c.self.inside.nodes.cells
    ∙ ap (option_map (λ n. n.entry)) c.push-link.ensures.fresh)
