use Rattle.std.proofs.Common.{refl}
use Rattle.dns_queries.proofs.Listing.{free, taken}
use Rattle.dns_queries.proofs.asker.Asker.sends_of.Goals as goal

pub returns-in-Some : goal.returns-in-Some
returns-in-Some c =
    let it = c.in-Some.ensures in
    rw (← c.self.view_is, taken c.self.inside.tickets.list c.args.id it.entry it.first) (c.sends_at.ensures it.entry it.there)

pub returns-in-None : goal.returns-in-None
returns-in-None c = rw (← c.self.view_is, free c.self.inside.tickets.list c.args.id c.in-None.ensures) refl
