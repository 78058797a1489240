use Rattle.std.proofs.Common.{◌∙◌}
use Rattle.dns_queries.proofs.Places.{place-told}
use Rattle.dns_queries.proofs.tickets.Tickets.pending_id_of.Goals as goal

pub returns : goal.returns
returns c =
    let here = c.get.ensures ∙ c.self.invariant.places c.args.id in
    rw (← c.self.view_is) (place-told c.self.inside.list c.args.id c.law_stands_in_order.ensures.found c.get.result here)
