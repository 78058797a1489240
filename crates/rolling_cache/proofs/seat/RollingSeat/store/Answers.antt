use Rattle.std.specs.Arc.{arc_value}
use Rattle.answer_cache.specs.Seats.{offer_of}
use Rattle.rolling_cache.proofs.Late.{offered-last}
use Rattle.rolling_cache.proofs.seat.RollingSeat.store.Goals as goal

pub keep-requires-clause-offered : goal.keep-requires-clause-offered
keep-requires-clause-offered g c =
    offered-last c.args.self.now.seat.seat.offered _
    (offer_of c.args.question.now (arc_value c.args.answer.now) c.args.now) c.store_noting-stored.ensures.offered
