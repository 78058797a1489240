use Rattle.dns_queries.proofs.Out.{Searched}
use Rattle.dns_queries.proofs.tickets.Tickets.id_of.Given as goal

abbrev pub invariant-loop-ticket : goal.invariant-loop-ticket
invariant-loop-ticket l = Searched l.question l.self.list.entries l.ticket-iterator
