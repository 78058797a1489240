use Rattle.std.proofs.Common.{◌≡◌}
use Rattle.answer_cache.specs.Seats.{SeatView}
use Rattle.sipwhere.specs.OpenLines.{Stands}
use Rattle.sipwhere.proofs.open_lines.OpenLines.give_late_up.Given as goal

abbrev pub invariant-lines : goal.invariant-lines
invariant-lines g l = record {
  same : (l.self.told ≡ l.fn.self.told) × (l.self.lines ≡ l.fn.self.lines) × (l.self.settings ≡ l.fn.self.settings);
  stands : (seat : SeatView) → Stands g.W.MessageWire.gives g.C.Clock.shows seat l.fn.self
      → Stands g.W.MessageWire.gives g.C.Clock.shows seat l.self;
}
