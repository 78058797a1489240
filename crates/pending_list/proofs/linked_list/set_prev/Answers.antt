use Rattle.pending_list.proofs.Distinct.{set-changed}
use Rattle.pending_list.proofs.linked_list.set_prev.Goals as goal

pub returns-in-Some-clause-cells : goal.returns-in-Some-clause-cells
returns-in-Some-clause-cells g c =
    rw c.in-Some.is (set-changed c.in-Some.link.at c.get_mut-node.result.now
    (λ n. record n { prev = c.args.prev }) c.args.nodes.now.cells c.get_mut-node.ensures.value)
