use Rattle.answer_cache.specs.Seats.{SeatView}
use Rattle.sip_resolver.proofs.Expiring.{Waited}
use Rattle.sip_resolver.specs.Expiries.{EndsLate}
use Rattle.sip_resolver.specs.Requests.{AreSame, Stand}
use Rattle.sip_resolver.proofs.expiries.expire_waiting.Given as goal

abbrev pub invariant-waits : goal.invariant-waits
invariant-waits g l = record {
  stand : (seat : SeatView) → Stand g.F.Facts.gives g.F.Facts.shows seat l.fn.requests
      → Stand g.F.Facts.gives g.F.Facts.shows seat l.requests;
  same : AreSame l.fn.requests l.requests;
  ends : EndsLate l.now l.fn.requests.ended l.requests.ended;
  waited : Waited l.now l.fn.requests l.requests l.fn.questions l.questions l._wait;
}
