-- What a moment asks for, seen as tickets.
use Rattle.std.proofs.Common.{◌≡◌, ℕ, ◌+◌, ◌<◌, map, Some, None, refl, sym, ap, ◌∙◌}
use Rattle.std.proofs.lemmas.List.Elements.{All-map}
use Rattle.pending_list.specs.Pending.{Pending}
use Rattle.pending_list.specs.declared.entry.Entry.{Entry}
use Rattle.dns_queries.proofs.Listing.{mapped-placed}
use Rattle.dns_queries.specs.Events.{Dues}
use Rattle.dns_queries.specs.Listed.{IsOverdue, ToldBy, asking_of, resent, ticket_in}
use Rattle.dns_queries.specs.TicketLists.{TicketList}
use Rattle.dns_queries.specs.Tickets.{Sent, Ticket}
use Rattle.dns_queries.specs.declared.incoming.Due.{Due}
use Rattle.dns_queries.specs.declared.incoming.Due.TheVariants.{Resend, GaveUp}
use Rattle.dns_queries.specs.declared.schedule.Schedule.{Schedule}
use Rattle.dns_queries.specs.declared.tickets.Overdue.{Overdue}
use Rattle.dns_queries.specs.declared.tickets.Overdue.TheVariants.{Again, GivenUp}

pub none-is : (schedule : Schedule) (old : Pending Sent) (new : TicketList) (now : ℕ) → IsOverdue schedule old new now None
    → Dues (asking_of schedule old) (asking_of schedule new.list) now None
none-is schedule old new now it = (ap (asking_of schedule) it.0, All-map (λ (it : Ticket). now < it.deadline) ticket_in old.entries it.1)

pub due-is : (schedule : Schedule) (old : Pending Sent) (new : TicketList) (now : ℕ) (overdue : Overdue) (due : Due)
    → IsOverdue schedule old new now (Some overdue) → ToldBy new overdue due
    → Dues (asking_of schedule old) (asking_of schedule new.list) now (Some due)
due-is schedule old new now (Again at) (Resend id octets) it told =
    let both : Some told.0 ≡ Some (resent (now + schedule.wait) it.0.entry) = sym told.1 ∙ it.3 in
    let same : told.0 ≡ resent (now + schedule.wait) it.0.entry = cc in
    record {
      ticket = ticket_in it.0.entry;
      others = map ticket_in it.0.others;
      first = ap (map ticket_in) it.0.first;
      over = it.0.over;
      more = it.1;
      id_is = told.2 ∙ ap (λ (entry : Entry Sent). entry.item.id) same;
      octets_are = rw same at told.3;
      left = ap (asking_of schedule) it.2 ∙ (rw (mapped-placed (resent (now + schedule.wait) it.0.entry) it.0.others) refl);
    }
due-is schedule old new now (Again at) (GaveUp id question) it told = absurd told
due-is schedule old new now GivenUp (Resend id octets) it told = absurd told
due-is schedule old new now GivenUp (GaveUp id question) it told =
    let same : told.0 ≡ it.0.entry.item = let both : Some told.0 ≡ Some it.0.entry.item = sym told.1 ∙ it.2 in cc in
    record {
      ticket = ticket_in it.0.entry;
      others = map ticket_in it.0.others;
      first = ap (map ticket_in) it.0.first;
      over = it.0.over;
      enough = it.1;
      id_is = told.2 ∙ ap (λ (sent : Sent). sent.id) same;
      question_is = told.3 ∙ ap (λ (sent : Sent). sent.question) same;
      left = ap (asking_of schedule) it.3;
    }
