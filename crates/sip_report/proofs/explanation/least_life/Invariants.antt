use Rattle.std.proofs.Common.{◌≡◌, drop}
use Rattle.sip_report.specs.Explanations.{least_life, least_of}
use Rattle.sip_report.proofs.explanation.least_life.Given as goal

abbrev pub invariant-targets : goal.invariant-targets
invariant-targets l = least_life l.paths l.targets ≡ least_of l.least (least_life l.paths (drop l.target-index l.targets))
