use Rattle.std.proofs.Common.{◌≡◌, ◌++◌, map, take}
use Rattle.std.specs.List.{filter}
use Rattle.answer_cache.specs.Carried.{lives_at, offers_in}
use Rattle.answer_cache.specs.Nodes.{offer_of_node}
use Rattle.answer_cache.proofs.carry.add_living.Given as goal

abbrev pub invariant-nodes : goal.invariant-nodes
invariant-nodes l =
    offers_in l.entries.items
    ≡ offers_in l.initial.entries.items ++ filter (lives_at l.now) (map (λ node. offer_of_node node.now) (take l.node-index l.nodes))
