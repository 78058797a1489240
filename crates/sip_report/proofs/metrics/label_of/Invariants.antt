use Rattle.std.proofs.Common.{◌≡◌, take}
use Rattle.std.specs.List.{flat_map}
use Rattle.std.specs.String.{string_bytes}
use Rattle.sip_report.specs.Metrics as spec
use Rattle.sip_report.proofs.metrics.label_of.Given as goal

-- the octets so far are written
abbrev pub invariant-loop-octet : goal.invariant-loop-octet
invariant-loop-octet l = string_bytes l.label ≡ flat_map spec.label_octet (take l.octet-index l.octet-items)
