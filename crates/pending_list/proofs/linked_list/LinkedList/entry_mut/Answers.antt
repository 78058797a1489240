use Rattle.std.proofs.Common.{None, refl, sym, ap, ◌∙◌}
use Rattle.std.specs.Option.{option_map}
use Rattle.pending_list.specs.Links.{entries_of, head_or, last_or}
use Rattle.pending_list.proofs.Linking.{is-linked-list, there-entries, value-entries, changed-cells, reentered, entries-changed}
use Rattle.pending_list.proofs.linked_list.LinkedList.entry_mut.Goals as goal

pub get_mut-node-requires : goal.get_mut-node-requires
get_mut-node-requires g c = record { there = there-entries c.args.link.at c.self.inside.nodes.cells (rw c.self.view_is c.requires.there) }

pub invariant_of-self-lent : goal.invariant_of-self-lent
invariant_of-self-lent g c w =
    let cs = c.self.inside.nodes.cells in let first = c.self.inside.first in let last = c.self.inside.last in
    let it = is-linked-list c.self.invariant.linked c.self.invariant.first c.self.invariant.last c.self.invariant.apart in
    let e = changed-cells cs first last it c.args.link.at c.get_mut-node.result.now c.get_mut-node.ensures.value w in
    let on = reentered cs first last it c.args.link.at c.get_mut-node.result.now c.get_mut-node.ensures.value w in
    record {
      linked = rw e on.linked;
      first = on.first_is ∙ ap (head_or None) (sym e);
      last =
          on.last_is ∙ ap (last_or None) (sym e);
      apart = rw e on.apart;
    }

pub returns : goal.returns
returns g c =
    let cs = c.self.inside.nodes.cells in
    let first = c.self.inside.first in
    let last = c.self.inside.last in
    let p = c.args.link.at in
    let n = c.get_mut-node.result.now in
    let is = c.get_mut-node.ensures.value in
    let it = is-linked-list c.self.invariant.linked c.self.invariant.first c.self.invariant.last c.self.invariant.apart in (
      (
        refl,
        λ w. rw (← c.self.view_is)
            (ap entries_of (changed-cells cs first last it p n is w) ∙ entries-changed cs first last it p n is w),
      ),
      record { writes_back = tt; value = rw (← c.self.view_is) (value-entries p cs ∙ ap (option_map (λ m. m.entry)) is) },
    )
