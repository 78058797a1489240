use Rattle.std.proofs.Common.{◌≡◌, ◌⊎◌, length}
use Rattle.sip_resolver.proofs.Turns.{Went}
use Rattle.sip_resolver.specs.Idle.{CannotAsk}
use Rattle.sip_resolver.proofs.resolver.Resolver.run_ready.Given as goal

abbrev pub invariant-tasks : goal.invariant-tasks
invariant-tasks g l = record {
  stays : g.B.AnswerBook.belongs l.book l.seat;
  went : Went g.F.Facts.gives g.F.Facts.shows (g.B.AnswerBook.shown l.fn.seat) (g.B.AnswerBook.shown l.seat) l.fn.self l.self;
  held : (l.self.requests.held ≡ l.fn.self.requests.held) ⊎ CannotAsk g.I.Ids.draws l.fn.self.questions;
}

abbrev pub decreases-tasks : goal.decreases-tasks
decreases-tasks g l = length l.self.requests.ready
