use Rattle.dns_queries.proofs.Listing.{free}
use Rattle.dns_queries.proofs.Out.{octets-are}
use Rattle.dns_queries.proofs.asker.Asker.octets_of.Goals as goal

pub returns-in-Some : goal.returns-in-Some
returns-in-Some c =
    let it = c.in-Some.ensures in
    rw (← c.self.view_is)
    (octets-are c.self.inside.tickets.schedule c.self.inside.tickets.list c.args.id it.entry _ it.first
    (c.octets_at.ensures it.entry it.there))

pub returns-in-None : goal.returns-in-None
returns-in-None c = rw (← c.self.view_is) (free c.self.inside.tickets.list c.args.id c.in-None.ensures)
