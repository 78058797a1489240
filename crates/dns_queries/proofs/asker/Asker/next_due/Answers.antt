use Rattle.std.proofs.Common.{ℕ, ◌≤◌, List, map, Option, Some, None, IfSome}
use Rattle.std.specs.List.{All}
use Rattle.std.proofs.lemmas.List.Elements.{All-map}
use Rattle.pending_list.specs.declared.entry.Entry.{Entry}
use Rattle.dns_queries.specs.Listed.{ticket_in}
use Rattle.dns_queries.specs.Tickets.{Sent, Ticket}
use Rattle.dns_queries.proofs.asker.Asker.next_due.Goals as goal

least : (deadline : Option ℕ) (entries : List (Entry Sent)) → IfSome deadline (λ it. All (λ entry. it ≤ entry.deadline) entries)
    → IfSome deadline (λ it. All (λ (ticket : Ticket). it ≤ ticket.deadline) (map ticket_in entries))
least None entries all = tt
least (Some it) entries all = All-map (λ (ticket : Ticket). it ≤ ticket.deadline) ticket_in entries all

pub returns-clause-least : goal.returns-clause-least
returns-clause-least c =
    rw (← c.self.view_is) (least c.first_deadline.result c.self.inside.tickets.list.entries c.first_deadline.ensures.least)
