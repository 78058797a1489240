use Rattle.std.proofs.Common.{◌≡◌, ◌∷◌, [], Some, sym, ap, ◌∙◌, rules}
use Rattle.pending_list.specs.Entries.{Entry}
use Rattle.pending_list.specs.Cells.{address_of, values}
use Rattle.pending_list.specs.Links.{cells_from}
use Rattle.pending_list.proofs.Walking.{from-none, stepped}
use Rattle.pending_list.proofs.iter.IterIterator.next.Goals as goal

pub returns-in_err-link-clause-steps : goal.returns-in_err-link-clause-steps
returns-in_err-link-clause-steps g c =
    let e : c.args.self.now ≡ [] =
    sym c.self.view_is ∙ ap (λ o. values (cells_from (address_of o) c.self.inside.entries.now)) c.in_err-link.was
    ∙ ap values (from-none c.self.inside.entries.now) in
    rw c.from_residual.ensures (e, e)

pub invariant_of-self : goal.invariant_of-self
invariant_of-self g c =
    let entry : Entry g.row.T.Denot = record { id = c.entry.inside.id; deadline = c.entry.inside.deadline; item = c.entry.inside.item } in
    let there = c.entry-entry.ensures ∙ ap Some (sym c.entry.view_is) in
    let cs = c.self.inside.entries.now in
    let next = c.behind-self-inside.result in
    let s = stepped c.in_ok-link.link.at entry next cs c.self.invariant.apart there c.behind-self-inside.ensures in
    record { apart = c.self.invariant.apart; there = s.there }

pub returns-clause-steps : goal.returns-clause-steps
returns-clause-steps g c =
    let entry : Entry g.row.T.Denot = record { id = c.entry.inside.id; deadline = c.entry.inside.deadline; item = c.entry.inside.item } in
    let there = c.entry-entry.ensures ∙ ap Some (sym c.entry.view_is) in
    let cs = c.self.inside.entries.now in
    let next = c.behind-self-inside.result in
    let s = stepped c.in_ok-link.link.at entry next cs c.self.invariant.apart there c.behind-self-inside.ensures in
    sym c.self.view_is ∙ ap (λ o. values (cells_from (address_of o) c.self.inside.entries.now)) c.in_ok-link.was ∙ ap values s.from

pub returns-clause-goes : goal.returns-clause-goes
returns-clause-goes g c =
    let entry : Entry g.row.T.Denot = record { id = c.entry.inside.id; deadline = c.entry.inside.deadline; item = c.entry.inside.item } in
    let there = c.entry-entry.ensures ∙ ap Some (sym c.entry.view_is) in
    let cs = c.self.inside.entries.now in
    let next = c.behind-self-inside.result in
    let s = stepped c.in_ok-link.link.at entry next cs c.self.invariant.apart there c.behind-self-inside.ensures in
    let steps : c.args.self.now ≡ entry ∷ values (cells_from (address_of c.behind-self-inside.result) c.self.inside.entries.now) =
    sym c.self.view_is ∙ ap (λ o. values (cells_from (address_of o) c.self.inside.entries.now)) c.in_ok-link.was ∙ ap values s.from in
    rw steps search rules
