use Rattle.std.proofs.Common.{ap, ◌∙◌}
use Rattle.std.specs.Option.{option_map}
use Rattle.pending_list.proofs.Linking.{there-entries, value-entries}
use Rattle.pending_list.proofs.linked_list.LinkedList.entry.Goals as goal

pub get-requires : goal.get-requires
get-requires g c = record { there = there-entries c.args.link.at c.self.inside.nodes.cells (rw c.self.view_is c.requires) }

pub returns : goal.returns
returns g c = rw (← c.self.view_is)
    (value-entries c.args.link.at c.self.inside.nodes.cells ∙ ap (option_map (λ n. n.entry)) c.get.ensures.value)
