use Rattle.std.proofs.Common.{◌≡◌, ◌++◌, take}
use Rattle.std.specs.List.{flat_map}
use Rattle.std.specs.String.{string_bytes}
use Rattle.sip_report.specs.RecordLines.{record_line}
use Rattle.sip_report.proofs.record_lines.push_records.Given as goal

abbrev pub invariant-loop-entry : goal.invariant-loop-entry
invariant-loop-entry l =
    string_bytes l.lines ≡ string_bytes l.initial.lines ++ flat_map (record_line l.form) (take l.entry-index l.records)
