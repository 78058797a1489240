use Rattle.std.proofs.Common.{◌≡◌, length}
use Rattle.siplocate.proofs.server.wires_to.Given as goal

abbrev pub invariant-wires : goal.invariant-wires
invariant-wires g l = length l.wires.items ≡ l._wire
