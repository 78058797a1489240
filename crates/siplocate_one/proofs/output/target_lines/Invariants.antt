use Rattle.std.proofs.Common.{◌≡◌, take}
use Rattle.std.specs.List.{flat_map}
use Rattle.std.specs.String.{string_bytes}
use Rattle.siplocate_one.specs.Words.{target_line}
use Rattle.siplocate_one.proofs.output.target_lines.Given as goal

abbrev pub invariant-loop-target : goal.invariant-loop-target
invariant-loop-target l = string_bytes l.lines ≡ flat_map target_line (take l.target-index l.targets)
