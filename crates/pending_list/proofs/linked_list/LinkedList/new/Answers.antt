use Rattle.std.proofs.Common.{refl}
use Rattle.pending_list.specs.Links.{AreLinked, head_or, last_or, AreDistinct}
use Rattle.pending_list.proofs.linked_list.LinkedList.new.Goals as goal

pub invariant_of-result : goal.invariant_of-result
unfolding AreLinked head_or last_or AreDistinct
invariant_of-result g c =
    record { linked = rw c.new.ensures tt; first = rw c.new.ensures refl; last = rw c.new.ensures refl; apart = rw c.new.ensures tt }
