use Rattle.std.proofs.Common.{◌≡◌, ℕ, IsSome, ap, sym, subst, ◌∙◌}
use Rattle.dns_message.specs.declared.question.Question.{Question}
use Rattle.dns_queries.proofs.Keeping.{kept-without, there}
use Rattle.dns_queries.proofs.Places.{still-out}
use Rattle.dns_queries.proofs.Reading.{left-is}
use Rattle.dns_queries.specs.IdTables.{place_in}
use Rattle.dns_queries.specs.TicketLists.{TicketList}
use Rattle.dns_queries.specs.Tickets.{Sent}
use Rattle.pending_list.specs.Pending.{Pending, entry_of}
use Rattle.dns_queries.proofs.tickets.Tickets.close.Goals as goal
use Rattle.dns_queries.proofs.tickets.Tickets.close.Goals.{In-Some}

-- all but the entries stays
rest : (c : In-Some) → c.remove.new.self ≡ record c.self.inside.list { entries = c.remove.new.self.entries }
rest c =
    c.in-Some.ensures.left
    ∙ ap (λ (it : Pending Sent). record c.self.inside.list { entries = it.entries }) (sym c.in-Some.ensures.left)

pub invariant_of-self : goal.invariant_of-self
invariant_of-self c =
    let some : IsSome (entry_of c.args.at c.self.inside.list.entries) =
    subst (λ (it : TicketList). IsSome (entry_of c.args.at it.list.entries)) (sym c.self.view_is) c.requires in
    let found = there (entry_of c.args.at c.self.inside.list.entries) some in
    let apart = c.in-Some.ensures.apart found.0 found.1 in
    let item = rw found.1 at c.in-Some.ensures.item in
    let same : c.in-Some.ticket ≡ found.0.item = cc in
    let id = ap (λ (it : ℕ × Question). it.0) c.into_parts-id.ensures ∙ ap (λ (sent : Sent). sent.id) same in
    record {
      asking = kept-without c.self.inside.schedule c.self.inside.list c.self.invariant.asking c.remove.new.self found.0 apart
          (rest (goal.at.invariant_of-self c).In-Some);
      places = still-out c.self.inside.schedule c.self.inside.list (place_in c.self.inside.table) c.self.invariant
          (place_in c.remove-in-Some.new.self) found.0 c.remove.new.self.entries apart _ id c.remove-in-Some.ensures;
    }

pub returns : goal.returns
returns c =
    rw (← c.self.view_is)
    (λ entry found.
    let item = rw found at c.in-Some.ensures.item in
    let same : c.in-Some.ticket ≡ entry.item = cc in (
      ap (λ (it : ℕ × Question). it.0) c.into_parts-id.ensures ∙ ap (λ (sent : Sent). sent.id) same,
      ap (λ (it : ℕ × Question). it.1) c.into_parts-id.ensures ∙ ap (λ (sent : Sent). sent.question) same,
      left-is c.self.inside.schedule c.self.inside.list c.remove.new.self c.self.invariant.asking entry
          (c.in-Some.ensures.apart entry found) (rest (goal.at.returns c).In-Some),
    ))
