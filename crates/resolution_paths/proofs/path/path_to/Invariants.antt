use Rattle.std.proofs.Common.{◌≡◌, drop}
use Rattle.resolution_paths.specs.Paths as spec
use Rattle.resolution_paths.proofs.path.path_to.Given as goal

abbrev pub invariant-paths : goal.invariant-paths
invariant-paths l = spec.first_to l.target l.paths ≡ spec.first_to l.target (drop l.path-index l.paths)
