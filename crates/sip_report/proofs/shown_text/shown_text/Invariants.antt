use Rattle.std.proofs.Common.{◌≡◌, take}
use Rattle.std.specs.String.{string_bytes}
use Rattle.sip_report.specs.Escapes as spec
use Rattle.sip_report.proofs.shown_text.shown_text.Given as goal

-- the octets so far are shown
abbrev pub invariant-loop-octet : goal.invariant-loop-octet
invariant-loop-octet l = string_bytes l.shown ≡ spec.shown (take l.octet-index l.octet-items)
