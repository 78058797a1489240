use Rattle.std.proofs.Common.{◌≡◌, length}
use Rattle.dns_zone.specs.Authorities.{nearest_start}
use Rattle.dns_zone.proofs.authority.nearest_start.Given as goal

-- no name that was passed has one
abbrev pub invariant-loop-entry : goal.invariant-loop-entry
invariant-loop-entry l = nearest_start l.zone l.owner ≡ nearest_start l.zone l.name

abbrev pub decreases-loop-entry : goal.decreases-loop-entry
decreases-loop-entry l = length l.owner
