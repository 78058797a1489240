use Rattle.answer_cache.specs.Seats.{SeatView}
use Rattle.sip_resolver.specs.Requests.{Stand}
use Rattle.try_states.proofs.lossy.add_all.Given as goal

abbrev pub invariant-all : goal.invariant-all
invariant-all g l = (seat : SeatView) → Stand g.F.Facts.gives g.F.Facts.shows seat l.fn.resolver.requests
    → Stand g.F.Facts.gives g.F.Facts.shows seat l.resolver.requests
