use Rattle.std.proofs.Common.{◌≡◌, ◌≤◌, length}
use Rattle.dns_zone.specs.Zones.{record_of}
use Rattle.dns_zone.specs.Authorities.{is_of}
use Rattle.dns_zone.proofs.Additions.{passed}
use Rattle.dns_zone.proofs.reply.push_records.Given as goal

abbrev pub invariant-loop-entry : goal.invariant-loop-entry
invariant-loop-entry l = record {
  few : length l.records.items ≤ 46;
  are : l.records.items ≡ passed (is_of l.type_number) (record_of l.owner) l.fn.records.items l.entries l.entry-index;
}
