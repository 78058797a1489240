use Rattle.sip_resolver.specs.Requests.{AreSame, Stand}
use Rattle.sip_resolver.specs.Works.{Works}
use Rattle.sip_resolver.specs.Driven.{Drives}
use Rattle.sip_resolver.proofs.drive.next_outcome.Given as goal

abbrev pub invariant-rounds : goal.invariant-rounds
invariant-rounds g l = record {
  stays : g.B.AnswerBook.belongs l.book l.seat;
  works : Works g.W.MessageWire.gives g.C.Clock.shows (g.B.AnswerBook.shown l.fn.seat) (g.B.AnswerBook.shown l.seat);
  stand : Stand g.W.MessageWire.gives g.C.Clock.shows (g.B.AnswerBook.shown l.seat) l.resolver.requests;
  same : AreSame l.fn.resolver.requests l.resolver.requests;
  drives : Drives g.W.MessageWire.does l.fn.wire l.wire;
}
