use Rattle.sip_resolver.specs.Requests.{Stand}
use Rattle.try_calls.proofs.resolver_calls.serve.Given as goal

abbrev pub invariant-replies : goal.invariant-replies
invariant-replies g l = record {
  stays : g.B.AnswerBook.belongs l.book l.seat;
  stand : Stand g.F.Facts.gives g.F.Facts.shows (g.B.AnswerBook.shown l.seat) l.resolver.requests;
}
