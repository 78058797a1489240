use Rattle.std.proofs.Common.{◌≡◌, take}
use Rattle.std.specs.List.{flat_map}
use Rattle.std.specs.String.{string_bytes}
use Rattle.sip_selection.specs.declared.target.Target.{Target}
use Rattle.siplocate.specs.Outcomes.{numbered}
use Rattle.siplocate_one.specs.Words.{target_line}
use Rattle.siplocate.proofs.line_outcome.numbered_targets.Given as goal

abbrev pub invariant-targets : goal.invariant-targets
invariant-targets l = string_bytes l.lines
    ≡ flat_map (λ (target : Target). numbered l.number (target_line target)) (take l.target-index l.targets)
