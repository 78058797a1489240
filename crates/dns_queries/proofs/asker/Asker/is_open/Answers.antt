use Rattle.dns_queries.proofs.Listing.{open-told}
use Rattle.dns_queries.proofs.asker.Asker.is_open.Goals as goal

pub returns : goal.returns
returns c =
    rw (c.is_some.ensures, ← c.self.view_is)
    (open-told c.self.inside.tickets.list c.args.id c.pending_id_of.result _ (λ at it. (it.entry, it.first)) c.pending_id_of.ensures)
