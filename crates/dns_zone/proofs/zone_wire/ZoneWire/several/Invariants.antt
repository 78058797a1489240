use Rattle.std.proofs.Common.{◌≡◌, length}
use Rattle.dns_zone.proofs.zone_wire.ZoneWire.several.Given as goal

abbrev pub invariant-loop : goal.invariant-loop
invariant-loop l = length l.wires.items ≡ l.counter
