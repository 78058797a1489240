use Rattle.std.proofs.Common.{length}
use Rattle.pending_list.proofs.linked_list.LinkedList.destroy.Given as goal

abbrev pub decreases-loop-link : goal.decreases-loop-link
decreases-loop-link g l = length l.self
