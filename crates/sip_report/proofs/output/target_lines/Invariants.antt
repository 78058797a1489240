use Rattle.std.proofs.Common.{◌≡◌, take}
use Rattle.std.specs.List.{flat_map}
use Rattle.std.specs.String.{string_bytes}
use Rattle.sip_report.specs.Lines.{target_line}
use Rattle.sip_report.proofs.output.target_lines.Given as goal

abbrev pub invariant-targets : goal.invariant-targets
invariant-targets l = string_bytes l.lines ≡ flat_map (target_line l.form l.front) (take l.target-index l.targets)
