use Rattle.std.proofs.Common.{◌≡◌, ◌++◌, take}
use Rattle.std.specs.List.{AllByRecursion, flat_map}
use Rattle.dns_message.specs.Fits.{RecordFits}
use Rattle.dns_message.specs.Written.{record_octets}
use Rattle.dns_message.proofs.resource.push_records.Given as goal

abbrev pub invariant-loop-entry : goal.invariant-loop-entry
invariant-loop-entry l = record {
  so_far : l.out.items ≡ l.initial.out.items ++ flat_map record_octets (take l.entry-index l.records);
  fit : AllByRecursion RecordFits (take l.entry-index l.records);
}
