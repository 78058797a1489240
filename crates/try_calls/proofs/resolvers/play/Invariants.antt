use Rattle.sip_resolver.specs.Requests.{Stand}
use Rattle.try_calls.proofs.resolvers.play.Given as goal

abbrev pub invariant-steps : goal.invariant-steps
invariant-steps g l = record {
  stays : g.B.AnswerBook.belongs l.book l.seat;
  stand : Stand g.F.Facts.gives g.F.Facts.shows (g.B.AnswerBook.shown l.seat) l.resolver.requests;
}
