use Rattle.std.proofs.Common.{◌≤◌, ◌-◌, length, take}
use Rattle.sip_options.specs.Texts.{Many}
use Rattle.sip_options.proofs.pieces.cut.Given as goal

abbrev pub invariant-loop-count : goal.invariant-loop-count
invariant-loop-count g l = record {
  within : l.at ≤ length l.text;
  many : Many (g.P.Piece.is_one l.piece) (take l.at l.text);
}

abbrev pub decreases-loop-count : goal.decreases-loop-count
decreases-loop-count g l = length l.text - l.at
