use Rattle.std.proofs.Common.{◌≡◌}
use Rattle.sip_resolver.proofs.Circling.{Circled}
use Rattle.sip_resolver.proofs.Expiring.{Turns}
use Rattle.sip_resolver.specs.Expiries.{has_time}
use Rattle.sip_resolver.proofs.expiries.expire_ready.Given as goal

abbrev pub invariant-tasks : goal.invariant-tasks
invariant-tasks g l = record {
  stays : g.B.AnswerBook.belongs l.book l.seat;
  turns : Turns g.F.Facts.gives g.F.Facts.shows l.now (g.B.AnswerBook.shown l.fn.seat) (g.B.AnswerBook.shown l.seat) l.fn.requests
      l.requests;
  circled : Circled (has_time l.now) l.fn.requests.ready l.requests.ready l._task;
  others : l.requests ≡ record l.fn.requests { ready = l.requests.ready; ended = l.requests.ended };
}
