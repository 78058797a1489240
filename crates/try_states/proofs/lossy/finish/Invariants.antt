use Rattle.sip_resolver.specs.Requests.{Stand}
use Rattle.try_states.proofs.lossy.finish.Given as goal

abbrev pub invariant-all : goal.invariant-all
invariant-all g l = record {
  stays : g.B.AnswerBook.belongs l.book l.seat;
  stand : Stand g.F.Facts.gives g.F.Facts.shows (g.B.AnswerBook.shown l.seat) l.resolver.requests;
}
