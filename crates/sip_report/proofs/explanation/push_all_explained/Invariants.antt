use Rattle.std.proofs.Common.{◌≡◌, ◌++◌, take}
use Rattle.std.specs.List.{flat_map}
use Rattle.std.specs.String.{string_bytes}
use Rattle.sip_report.specs.Explanations.{explained}
use Rattle.sip_report.proofs.explanation.push_all_explained.Given as goal

abbrev pub invariant-targets : goal.invariant-targets
invariant-targets l = string_bytes l.lines
    ≡ string_bytes l.fn.lines ++ flat_map (explained l.form l.via l.paths) (take l.target-index l.targets)
