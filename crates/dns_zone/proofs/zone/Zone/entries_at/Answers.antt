use Rattle.std.proofs.Common.{refl}
use Rattle.dns_zone.proofs.Lookups.{entries-found}
use Rattle.dns_zone.proofs.zone.Zone.entries_at.Goals as goal

pub returns-in-Some : goal.returns-in-Some
returns-in-Some c =
    rw (← c.self.view_is, entries-found c.args.name.now c.self.inside.owners.entries, ← c.in-Some.ensures.value) c.as_slice.ensures.value

pub returns-in-None : goal.returns-in-None
returns-in-None c = rw (← c.self.view_is, entries-found c.args.name.now c.self.inside.owners.entries, ← c.in-None.ensures.value) refl
