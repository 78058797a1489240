use Rattle.std.proofs.Common.{◌≡◌, ◌≤◌, take}
use Rattle.std.specs.List.{count_by}
use Rattle.sip_report.specs.RecordLines.{is_of_type}
use Rattle.sip_report.proofs.record_lines.count_of_type.Given as goal

abbrev pub invariant-loop-entry : goal.invariant-loop-entry
invariant-loop-entry l = record {
  count : l.count ≡ count_by (is_of_type l.type_number) (take l.entry-index l.records);
  few : l.count ≤ l.entry-index;
}
