use Rattle.std.proofs.Common.{◌≡◌, ◌≤◌, take}
use Rattle.std.specs.Prelude.{IsTrue}
use Rattle.sipwhere.specs.Runs.{IsRun, StaysSo}
use Rattle.sipwhere.proofs.locate_run.LocateRun.locate_in_turn.Given as goal

abbrev pub invariant-lines : goal.invariant-lines
invariant-lines g l = record {
  settings : l.self.settings ≡ l.fn.self.settings;
  run : IsRun g.W.MessageWire.gives g.C.Clock.shows l.self.seat l.fn.self.settings l.fn.style (take l.line-index l.fn.lines)
      l.fn.self.printed l.self.printed l.told.status;
  later : StaysSo g.W.MessageWire.gives g.C.Clock.shows l.fn.self.seat l.self.seat;
  range : l.told.status ≤ 5;
  closed : IsTrue l.told.is_closed → l.told.status ≡ 5;
}
