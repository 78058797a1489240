use Rattle.std.proofs.Common.{length}
use Rattle.answer_cache.specs.Seats.{SeatView}
use Rattle.sip_resolver.proofs.Settling.{Settling}
use Rattle.sip_resolver.specs.Requests.{AreSame, Stand}
use Rattle.sip_resolver.specs.Waits.{IsKnown, MayEnd, MayGoOn}
use Rattle.sip_resolver.proofs.waits.settle_all.Given as goal

abbrev pub invariant-waits : goal.invariant-waits
invariant-waits g l = record {
  stand : (seat : SeatView) → IsKnown g.F.Facts.gives g.F.Facts.shows seat l.end
      → Stand g.F.Facts.gives g.F.Facts.shows seat l.fn.requests → Stand g.F.Facts.gives g.F.Facts.shows seat l.requests;
  same : AreSame l.fn.requests l.requests;
  settling : Settling l.id (MayGoOn l.end) (MayEnd l.end) l.fn.requests l.requests;
}

abbrev pub decreases-waits : goal.decreases-waits
decreases-waits g l = length l.requests.waiting
