use Rattle.std.proofs.Common.{refl}
use Rattle.dns_zone.proofs.Lookups.{entries-grown}
use Rattle.dns_zone.proofs.zone.Zone.add.Goals as goal

pub returns-in-Some : goal.returns-in-Some
returns-in-Some c =
    let value = c.in-Some.ensures.value in
    let written = (c.get_mut.follows.holds c.push.new.self).3 (rw (← value) refl) in
    let grown = entries-grown c.args.owner c.self.inside.owners.entries
    (c.get_mut.follows.lender c.push.new.self).entries c.push.new.self c.args.entry
    (c.law_same_names_are_equal.ensures c.args.owner) (rw (← value) c.in_ok-push.ensures.items) (λ name. written.0 name) in
    rw (← c.self.view_is) grown

pub returns : goal.returns
returns c =
    let grown = entries-grown c.args.owner c.self.inside.owners.entries c.insert.new.self.entries c.push-2.new.self c.args.entry
    (c.law_same_names_are_equal.ensures c.args.owner)
    (rw (← c.in_default.ensures.value, c.in_ok-push-2.ensures.items, c.new-entries.ensures.items) refl)
    (λ name. rw c.get_mut.follows.holds-at-none at c.in_ok-insert.ensures.updates.0 name) in
    rw (← c.self.view_is) grown
