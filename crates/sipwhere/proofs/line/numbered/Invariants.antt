use Rattle.std.proofs.Common.{◌≡◌, map, take}
use Rattle.sipwhere.specs.LineInputs.{numbered_from, said}
use Rattle.sipwhere.proofs.line.numbered.Given as goal

abbrev pub invariant-texts : goal.invariant-texts
invariant-texts l = map said l.lines.items ≡ numbered_from l.first (map (λ text. text.now) (take l.at l.texts))
