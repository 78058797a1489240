use Rattle.std.proofs.Common.{◌≡◌, take}
use Rattle.std.specs.List.{flat_map}
use Rattle.std.specs.String.{string_bytes}
use Rattle.sip_report.specs.Lines.{try_line}
use Rattle.sip_report.proofs.output.try_lines.Given as goal

abbrev pub invariant-tries : goal.invariant-tries
invariant-tries l = string_bytes l.lines ≡ flat_map (try_line l.form l.front) (take l.it-index l.tries)
