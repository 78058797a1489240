use Rattle.rolling_cache.proofs.Opening.{left-first}
use Rattle.rolling_cache.proofs.generation.Generation.first.Goals as goal

pub open-opened-requires-clause-left : goal.open-opened-requires-clause-left
open-opened-requires-clause-left c =
    left-first c.in_ok-cache.cache c.args.seats c.none.result c.in_ok-cache.seats.items c.none.ensures
    c.in_ok-cache.ensures.belong c.in_ok-cache.ensures.seats
