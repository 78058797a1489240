use Rattle.std.proofs.Common.{◌≡◌, ◌≤◌, ◌++◌, ℕ, List, Option}
use Rattle.std.specs.Prelude.{IsTrue}
use Rattle.answer_cache.specs.Seats.{SeatView}
use Rattle.sipwhere.specs.OpenLines.{HasTold, Stands}
use Rattle.sipwhere.specs.Runs.{IsGravest}
use Rattle.sipwhere.proofs.open_lines.OpenLines.tell_all.Given as goal

abbrev pub invariant-lines : goal.invariant-lines
invariant-lines g l = record {
  range : l.told.status ≤ 5;
  stands : (seat : SeatView) → Stands g.W.MessageWire.gives g.C.Clock.shows seat l.fn.self
      → Stands g.W.MessageWire.gives g.C.Clock.shows seat l.self;
  same : (l.self.lines ≡ l.fn.self.lines) × (l.self.settings ≡ l.fn.self.settings);
  tells : (seat : SeatView) → Stands g.W.MessageWire.gives g.C.Clock.shows seat l.fn.self → (start : Option (List ℕ)) (before : List ℕ)
      → HasTold g.W.MessageWire.gives g.C.Clock.shows seat l.fn.style l.fn.self start (g.O.Write.contents l.fn.output) before
      → (more : List ℕ) × HasTold g.W.MessageWire.gives g.C.Clock.shows seat l.fn.style l.self start (g.O.Write.contents l.output)
      (before ++ more)
      × IsGravest more l.told.status;
  closed : IsTrue l.told.is_closed → l.told.status ≡ 5;
}
