use Rattle.std.proofs.Common.{◌≡◌, take}
use Rattle.std.specs.List.{list_any}
use Rattle.sip_report.specs.Verdicts.{is_shown}
use Rattle.sip_report.proofs.verdict.is_among.Given as goal

abbrev pub invariant-targets : goal.invariant-targets
invariant-targets l = l.is_found ≡ list_any (is_shown l.word) (take l.target-index l.targets)
