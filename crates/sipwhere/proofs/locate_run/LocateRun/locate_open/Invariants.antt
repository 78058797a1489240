use Rattle.std.proofs.Common.{◌≡◌, ◌≤◌, ℕ, List}
use Rattle.std.specs.Prelude.{IsTrue}
use Rattle.sipwhere.specs.OpenLines.{HasTold, Stands}
use Rattle.sipwhere.specs.Runs.{IsGravest, StaysSo}
use Rattle.sipwhere.proofs.locate_run.LocateRun.locate_open.Given as goal

abbrev pub invariant-rounds : goal.invariant-rounds
invariant-rounds g l = record {
  settings : l.self-inside.settings ≡ l.fn.self.settings;
  stays : g.B.AnswerBook.belongs l.self-inside.book l.self-inside.seat;
  stands : Stands g.W.MessageWire.gives g.C.Clock.shows (g.B.AnswerBook.shown l.self-inside.seat) l.lines;
  same : (l.lines.lines ≡ l.fn.lines.lines) × (l.lines.settings ≡ l.fn.lines.settings);
  told : (statuses : List ℕ) × HasTold g.W.MessageWire.gives g.C.Clock.shows (g.B.AnswerBook.shown l.self-inside.seat) l.fn.style l.lines
      l.fn.self.printed (g.O.Write.contents l.self-inside.output) statuses × IsGravest statuses l.told.status;
  later : StaysSo g.W.MessageWire.gives g.C.Clock.shows l.fn.self.seat (g.B.AnswerBook.shown l.self-inside.seat);
  range : l.told.status ≤ 5;
  closed : IsTrue l.told.is_closed → l.told.status ≡ 5;
}
