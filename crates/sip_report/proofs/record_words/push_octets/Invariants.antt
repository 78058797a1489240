use Rattle.std.proofs.Common.{◌≡◌, ◌++◌, take}
use Rattle.std.specs.List.{flat_map}
use Rattle.std.specs.String.{string_bytes}
use Rattle.sip_report.specs.RecordLines.{quoted_octet}
use Rattle.sip_report.proofs.record_words.push_octets.Given as goal

abbrev pub invariant-loop-octet : goal.invariant-loop-octet
invariant-loop-octet l =
    string_bytes l.words ≡ string_bytes l.initial.words ++ flat_map quoted_octet (take l.octet-index l.octets)
