use Rattle.sip_resolver.specs.Requests.{Stand}
use Rattle.try_calls.proofs.resolver_calls.send_all.Given as goal

abbrev pub invariant-sends : goal.invariant-sends
invariant-sends g l = record {
  stays : g.B.AnswerBook.belongs l.book l.seat;
  stand : Stand g.F.Facts.gives g.F.Facts.shows (g.B.AnswerBook.shown l.seat) l.resolver.requests;
}
