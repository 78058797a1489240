use Rattle.std.specs.Arc.{arc_value}
use Rattle.answer_cache.specs.Seats.{offer_of}
use Rattle.rolling_cache.proofs.Late.{late-more}
use Rattle.rolling_cache.proofs.seat.RollingSeat.store_here.Goals as goal

pub invariant_of-self : goal.invariant_of-self
invariant_of-self g c =
    late-more c.self.inside.seat.seat.offered c.store.new.seat.seat.offered c.self.inside.late.items
    (offer_of c.args.question.now (arc_value c.args.answer.now) c.args.now) c.store.ensures.offered c.self.invariant
