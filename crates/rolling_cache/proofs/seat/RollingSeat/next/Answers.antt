use Rattle.rolling_cache.proofs.Late.{late-same}
use Rattle.rolling_cache.proofs.seat.RollingSeat.next.Goals as goal

pub invariant_of-self : goal.invariant_of-self
invariant_of-self g c =
    late-same c.self.inside.seat.seat.offered c.hand_on.new.seat.seat.offered c.self.inside.late.items
    c.hand_on.ensures.waits.stores_nothing.offered c.self.invariant

pub invariant_of-self-2 : goal.invariant_of-self-2
invariant_of-self-2 g c =
    late-same c.self.inside.seat.seat.offered c.hand_on.new.seat.seat.offered c.self.inside.late.items
    c.hand_on.ensures.waits.stores_nothing.offered c.self.invariant
