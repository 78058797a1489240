use Rattle.answer_log.specs.Groups.{group_limit}
use Rattle.answer_log.specs.Logs.{history}
use Rattle.std.proofs.Common.{◌≡◌, ◌*◌, ℕ, ap, subst, sym, ◌∙◌}
use Rattle.answer_log.specs.Histories.{IsHistory}
use Rattle.answer_cache.specs.Carried.{IsCarriedOf, offers_in}
use Rattle.answer_cache.proofs.Carrying.{carried-history}
use Rattle.answer_cache.proofs.Seating as seating
use Rattle.answer_cache.proofs.shared_cache.SharedCache.carry.Goals as goal

pub invariant_of-result : goal.invariant_of-result
invariant_of-result c =
    let handle = c.carry_groups-entries.new.handle in
    let groups = c.seat.inside.handle.groups in
    let same = c.carry_groups-entries.ensures.holds.groups in
    let H : ℕ → Type 0 = λ so. IsHistory so (history handle.book.log) in
    let kept = subst H (c.carry_groups-entries.ensures.holds.handle.groups ∙ same) c.law_log_keeps_its_rule.ensures.history in
    let least = c.seat.invariant.0.group_count.0 in
    let most = c.seat.invariant.0.group_count.1 in
    let entries = offers_in c.in_ok-entries.field-0.items in
    let mine : c.args.self.now.groups ≡ groups = sym (ap (λ v. v.cache.groups) c.seat.view_is ∙ ap (λ v. v.groups) c.requires.made_here.made) in
    let I : ℕ → Type 0 = λ so. IsCarriedOf so so (history c.seat.inside.handle.book.log) (history handle.book.log) c.args.now entries in (
      least,
      most,
      carried-history groups groups (history c.seat.inside.handle.book.log) (history handle.book.log) c.args.now entries
          (subst I mine c.in_ok-entries.ensures.carried) kept,
    )

pub returns-in_err-entries-clause-stays : goal.returns-in_err-entries-clause-stays
returns-in_err-entries-clause-stays c =
    seating.stays c.seat.inside.handle c.carry_groups-entries.new.handle c.seat.inside.notes c.args.self.now c.args.seat.now
    c.seat.view_is
    c.requires.made_here c.carry_groups-entries.ensures.holds c.law_log_keeps_its_rule.ensures.history

pub returns-in_err-entries-clause-goes_on : goal.returns-in_err-entries-clause-goes_on
returns-in_err-entries-clause-goes_on c =
    seating.goes-on c.seat.inside.handle c.carry_groups-entries.new.handle c.seat.inside.notes c.args.self.now c.args.seat.now
    c.seat.view_is
    c.carry_groups-entries.ensures.holds c.carry_groups-entries.ensures.seen

pub returns-in_err-entries-clause-stores_nothing : goal.returns-in_err-entries-clause-stores_nothing
returns-in_err-entries-clause-stores_nothing c =
    seating.stores-nothing c.seat.inside.handle c.carry_groups-entries.new.handle c.seat.inside.notes c.args.self.now c.args.seat.now
    c.seat.view_is
    c.carry_groups-entries.ensures.holds c.carry_groups-entries.ensures.seen

pub returns-in_err-entries-clause-takes : goal.returns-in_err-entries-clause-takes
returns-in_err-entries-clause-takes c =
    seating.takes c.seat.inside.handle c.carry_groups-entries.new.handle c.seat.inside.notes c.args.self.now c.args.seat.now
    c.seat.view_is
    (c.args.self.now.groups * group_limit) 0 c.carry_groups-entries.ensures.costs

pub returns-clause-stays : goal.returns-clause-stays
returns-clause-stays c =
    seating.stays c.seat.inside.handle c.carry_groups-entries.new.handle c.seat.inside.notes c.args.self.now c.args.seat.now
    c.seat.view_is
    c.requires.made_here c.carry_groups-entries.ensures.holds c.law_log_keeps_its_rule.ensures.history

pub returns-clause-goes_on : goal.returns-clause-goes_on
returns-clause-goes_on c =
    seating.goes-on c.seat.inside.handle c.carry_groups-entries.new.handle c.seat.inside.notes c.args.self.now c.args.seat.now
    c.seat.view_is
    c.carry_groups-entries.ensures.holds c.carry_groups-entries.ensures.seen

pub returns-clause-stores_nothing : goal.returns-clause-stores_nothing
returns-clause-stores_nothing c =
    seating.stores-nothing c.seat.inside.handle c.carry_groups-entries.new.handle c.seat.inside.notes c.args.self.now c.args.seat.now
    c.seat.view_is
    c.carry_groups-entries.ensures.holds c.carry_groups-entries.ensures.seen

pub returns-clause-takes : goal.returns-clause-takes
returns-clause-takes c =
    seating.takes c.seat.inside.handle c.carry_groups-entries.new.handle c.seat.inside.notes c.args.self.now c.args.seat.now
    c.seat.view_is
    (c.args.self.now.groups * group_limit) 0 c.carry_groups-entries.ensures.costs
