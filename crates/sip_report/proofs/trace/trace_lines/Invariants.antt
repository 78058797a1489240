use Rattle.std.proofs.Common.{◌≡◌, take}
use Rattle.std.specs.List.{flat_map}
use Rattle.std.specs.String.{string_bytes}
use Rattle.sip_report.specs.Traces.{try_lines}
use Rattle.sip_report.proofs.trace.trace_lines.Given as goal

abbrev pub invariant-tries : goal.invariant-tries
invariant-tries l = string_bytes l.lines ≡ flat_map (try_lines l.form l.via) (take l.one-index l.tries)
