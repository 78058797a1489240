use Rattle.dns_queries.proofs.tickets.Tickets.law_stands_in_order.Goals as goal

pub returns : goal.returns
returns c = rw (← c.self.view_is) c.self.invariant.asking
