use Rattle.std.proofs.Common.{◌≡◌, drop}
use Rattle.dns_zone.specs.Zones.{first_cname}
use Rattle.dns_zone.proofs.zone.first_cname.Given as goal

-- the first alias is not among those that were passed
abbrev pub invariant-loop-entry : goal.invariant-loop-entry
invariant-loop-entry l = first_cname (drop l.entry-index l.entries) ≡ first_cname l.entries
