use Rattle.std.proofs.Common.{◌≡◌, length}
use Rattle.dns_name.specs.Landings.{AreLandings}
use Rattle.dns_name.proofs.landing.landings_of.Given as goal

abbrev pub invariant-loop-offset : goal.invariant-loop-offset
invariant-loop-offset l = record {
  count : length l.landings.items ≡ l.offset;
  known : AreLandings l.bytes l.landings.items;
}
