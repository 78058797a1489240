use Rattle.std.proofs.Common.{◌≡◌, length}
use Rattle.dns_name.specs.Landings.{AreLandings}
use Rattle.dns_message.specs.Offsets.{AllAt}
use Rattle.dns_message.proofs.Offsets.{Follows}
use Rattle.dns_message.proofs.entry.read_entries.Given as goal

abbrev pub invariant-loop : goal.invariant-loop
invariant-loop g l = record {
  so_far : AllAt (g.E.Entry.stands l.bytes) l.fn.offset l.entries.items l.offset;
  follows : Follows (g.E.Entry.stands l.bytes) l.fn.offset l.offset l.entries.items;
  count : length l.entries.items ≡ l.counter;
  known : AreLandings l.bytes l.landings;
}
