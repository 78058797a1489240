use Rattle.rolling_cache.proofs.Late.{late-same}
use Rattle.rolling_cache.proofs.seat.RollingSeat.has_many.Goals as goal

pub invariant_of-self : goal.invariant_of-self
invariant_of-self c =
    late-same c.self.inside.seat.seat.offered c.group_has-has.new.seat.seat.offered c.self.inside.late.items
    c.group_has-has.ensures.stores_nothing.offered c.self.invariant
