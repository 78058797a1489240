use Rattle.std.proofs.Common.{◌≡◌, ◌++◌, take}
use Rattle.std.specs.List.{flat_map}
use Rattle.dns_message.specs.Written.{record_octets}
use Rattle.dns_message.proofs.message_writer.push_records.Given as goal

-- the records that were passed stand behind what stood there
abbrev pub invariant-loop-entry : goal.invariant-loop-entry
invariant-loop-entry l = l.out.items ≡ l.initial.out.items ++ flat_map record_octets (take l.entry-index l.records)
