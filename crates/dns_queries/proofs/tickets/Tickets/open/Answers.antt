use Rattle.std.proofs.Common.{◌≡◌, ◌+◌, None, ap, sym, ◌∙◌, arith}
use Rattle.std.specs.List.{find}
use Rattle.pending_list.specs.Ids.{Id}
use Rattle.pending_list.specs.declared.entry.Entry.{Entry}
use Rattle.dns_queries.proofs.Keeping.{kept-more}
use Rattle.dns_queries.proofs.Listing.{none-told}
use Rattle.dns_queries.proofs.Places.{still-put}
use Rattle.dns_queries.specs.IdTables.{place_in}
use Rattle.dns_queries.specs.Listed.{IsKept, is_of}
use Rattle.dns_queries.specs.TicketLists.{TicketList}
use Rattle.dns_queries.specs.Tickets.{IsSent, Sent}
use Rattle.dns_queries.proofs.tickets.Tickets.open.Goals as goal

pub invariant_of-self-2 : goal.invariant_of-self-2
invariant_of-self-2 c =
    let entry : Entry Sent = record { id = c.in-Ok-insert.at; deadline = c.deadline_after.result; item = c.in-Ok-new.ticket } in
    let none : find (is_of c.args.id) c.args.self.now.list.entries ≡ None =
    none-told {A = Id} c.pending_id_of.result _ _ c.pending_id_of.ensures c.if-is_some.ensures in
    let free : find (is_of c.args.id) c.self.inside.list.entries ≡ None =
    ap (λ (it : TicketList). find (is_of c.args.id) it.list.entries) c.self.view_is ∙ none in
    let some = c.self.invariant.asking.scheduled.sends.0 in
    let sent : IsSent c.self.inside.schedule c.in-Ok-new.ticket =
    rw c.in-Ok-new.ensures record { some = omega arith; few = omega (arith, some) } in
    let free' : find (is_of c.in-Ok-new.ticket.id) c.self.inside.list.entries ≡ None = rw c.in-Ok-new.ensures free in
    let kept : IsKept c.self.inside.schedule c.self.inside.list (place_in c.reserve.new.self) = record {
      asking = c.self.invariant.asking;
      places = λ other. c.in-Ok-reserve.ensures.same other ∙ c.self.invariant.places other;
    } in
    let id = sym (ap (λ (sent : Sent). sent.id) c.in-Ok-new.ensures) in
    rw c.in-Ok-insert.ensures.inserted
    record {
      asking = kept-more c.self.inside.schedule c.self.inside.list c.self.invariant.asking entry (c.self.inside.list.serial + 1) sent
          free' c.in-Ok.ensures.can.0;
      places = still-put c.self.inside.schedule c.self.inside.list (place_in c.reserve.new.self) kept
          (place_in c.insert-2.new.self) entry _ id free' c.insert-2.ensures;
    }
