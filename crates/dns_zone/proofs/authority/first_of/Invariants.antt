use Rattle.std.proofs.Common.{◌≡◌, drop}
use Rattle.std.specs.List.{find}
use Rattle.dns_zone.specs.Views.{says}
use Rattle.dns_zone.proofs.authority.first_of.Given as goal

-- the first one is not among those that were passed
abbrev pub invariant-loop-entry : goal.invariant-loop-entry
invariant-loop-entry l = find (says l.type_number) (drop l.entry-index l.entries) ≡ find (says l.type_number) l.entries
