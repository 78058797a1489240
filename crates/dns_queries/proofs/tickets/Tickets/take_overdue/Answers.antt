use Rattle.std.proofs.Common.{◌≡◌, refl, ap, sym, ◌∙◌, arith}
use Rattle.pending_list.specs.Pending.{without}
use Rattle.pending_list.specs.declared.entry.Entry.{Entry}
use Rattle.dns_queries.proofs.Keeping.{kept-resent, kept-rest}
use Rattle.dns_queries.proofs.Listing.{leader-found, leads, not-more, same-first}
use Rattle.dns_queries.proofs.Places.{pending_id_of-resent, still-rest}
use Rattle.dns_queries.specs.IdTables.{place_in}
use Rattle.dns_queries.specs.Tickets.{Sent}
use Rattle.dns_queries.proofs.tickets.Tickets.take_overdue.Goals as goal

pub returns-then-deadline-get-clause-overdue : goal.returns-then-deadline-get-clause-overdue
returns-then-deadline-get-clause-overdue c =
    let now = c.get.ensures.seconds in
    let late = c.if-deadline-get.true in
    rw (← c.self.view_is) (refl, λ k d small. let least = c.in_ok-at.ensures.least k d small in omega (arith, now, late, least))

pub invariant_of-self : goal.invariant_of-self
invariant_of-self c =
    let it = leads c.self.inside.list.entries c.in_ok-at.at c.in_ok-at.deadline c.in_ok-at.ensures.first in
    let found = leader-found c.self.inside.list.entries c.in_ok-at.at c.in_ok-at.deadline c.law_stands_in_order.ensures.found it in
    let more = (c.may_be_sent_again.ensures it.entry found).0 c.if-may_be_sent_again.true in
    let sent = (c.send_again.ensures it.entry found).0 in
    let rest : without it.entry.id c.self.inside.list.entries
    ≡ it.others = c.law_stands_in_order.ensures.first it.entry it.others it.whole in
    let others : without c.in_ok-at.at c.self.inside.list.entries ≡ it.others =
    ap (λ id. without id c.self.inside.list.entries) it.at_is ∙ rest in
    rw (sent, others, c.deadline_after.ensures) record {
      asking = kept-resent c.self.inside.schedule c.self.inside.list c.self.invariant.asking it.entry it.others it.whole _ more;
      places = λ other.
          c.self.invariant.places other
          ∙ sym
          (pending_id_of-resent c.self.inside.schedule c.self.inside.list c.self.invariant.asking it.entry it.others it.whole _ other);
    }

pub returns-then-may_be_sent_again-clause-overdue : goal.returns-then-may_be_sent_again-clause-overdue
returns-then-may_be_sent_again-clause-overdue c =
    let it = leads c.self.inside.list.entries c.in_ok-at.at c.in_ok-at.deadline c.in_ok-at.ensures.first in
    let found = leader-found c.self.inside.list.entries c.in_ok-at.at c.in_ok-at.deadline c.law_stands_in_order.ensures.found it in
    let more = (c.may_be_sent_again.ensures it.entry found).0 c.if-may_be_sent_again.true in
    let sent = c.send_again.ensures it.entry found in
    let rest : without it.entry.id c.self.inside.list.entries
    ≡ it.others = c.law_stands_in_order.ensures.first it.entry it.others it.whole in
    let others : without c.in_ok-at.at c.self.inside.list.entries ≡ it.others =
    ap (λ id. without id c.self.inside.list.entries) it.at_is ∙ rest in
    let now = c.get.ensures.seconds in
    let over = c.if-deadline-get.false in
    let same = it.deadline_is in
    let again = c.deadline_after.ensures in
    rw (← c.self.view_is) (
      record { entry = it.entry; others = it.others; first = it.whole; over = omega (arith, now, over, same) },
      more,
      (sent.0 ∙ (rw (others, again) refl)),
      (sent.1 ∙ (rw again refl)),
    )

pub invariant_of-self-2 : goal.invariant_of-self-2
invariant_of-self-2 c =
    let first : Entry Sent = record { id = c.in_ok-ticket.field-0-0; deadline = c.in_ok-ticket.field-0-1; item = c.in_ok-ticket.ticket } in
    let others = c.pop_due.new.self.entries in
    rw c.in_ok-ticket.ensures.left record {
      asking = kept-rest c.self.inside.schedule c.self.inside.list c.self.invariant.asking first others c.in_ok-ticket.ensures.taken;
      places = still-rest c.self.inside.schedule c.self.inside.list (place_in c.self.inside.table) c.self.invariant
          (place_in c.remove.new.self) first others c.in_ok-ticket.ensures.taken _ c.id.ensures c.remove.ensures;
    }

pub returns-clause-overdue : goal.returns-clause-overdue
returns-clause-overdue c =
    let it = leads c.self.inside.list.entries c.in_ok-at.at c.in_ok-at.deadline c.in_ok-at.ensures.first in
    let found = leader-found c.self.inside.list.entries c.in_ok-at.at c.in_ok-at.deadline c.law_stands_in_order.ensures.found it in
    let enough = not-more it.entry.item.sends _ _ (c.may_be_sent_again.ensures it.entry found) c.if-may_be_sent_again.false in
    let first : Entry Sent = record { id = c.in_ok-ticket.field-0-0; deadline = c.in_ok-ticket.field-0-1; item = c.in_ok-ticket.ticket } in
    let same =
    same-first c.self.inside.list.entries first it.entry c.pop_due.new.self.entries it.others
    c.in_ok-ticket.ensures.taken it.whole in
    let sends = ap (λ (entry : Entry Sent). entry.item.sends) same.0 in
    let now = c.get-2.ensures.seconds in
    let over = c.in_ok-ticket.ensures.due in
    rw (← c.self.view_is) (
      record { entry = first; others = c.pop_due.new.self.entries; first = c.in_ok-ticket.ensures.taken; over = omega (arith, now, over) },
      omega (arith, sends, enough),
      refl,
      c.in_ok-ticket.ensures.left,
    )
