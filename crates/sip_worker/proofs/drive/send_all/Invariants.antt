use Rattle.sip_resolver.specs.Requests.{AreSame, Stand}
use Rattle.sip_resolver.specs.Works.{Works}
use Rattle.sip_worker.specs.Drives.{Gives, SendsMany}
use Rattle.sip_worker.proofs.drive.send_all.Given as goal

abbrev pub invariant-sends : goal.invariant-sends
invariant-sends g l = record {
  stays : g.B.AnswerBook.belongs l.book l.seat;
  works : Works g.W.Wire.gives g.C.Clock.shows (g.B.AnswerBook.shown l.fn.seat) (g.B.AnswerBook.shown l.seat);
  stand : Stand g.W.Wire.gives g.C.Clock.shows (g.B.AnswerBook.shown l.seat) l.resolver.requests;
  same : AreSame l.fn.resolver.requests l.resolver.requests;
  many : SendsMany g.W.Wire.failed g.W.Wire.does (Gives g.W.Wire.gives g.C.Clock.shows g.I.Ids.draws) l.fn.wire l.fn.resolver
      l._send l.wire l.resolver;
}
