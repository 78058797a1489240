use Rattle.std.proofs.Common.{◌≡◌, map, drop}
use Rattle.std.specs.Arc.{arc_value}
use Rattle.resolution_paths.specs.Paths as spec
use Rattle.resolution_paths.proofs.path.life_of.Given as goal

abbrev pub invariant-answers : goal.invariant-answers
invariant-answers l =
    spec.life_of l.address (map arc_value l.answers) ≡ spec.life_of l.address (map arc_value (drop l.answer-index l.answers))
