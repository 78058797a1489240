use Rattle.std.proofs.Common.{◌≡◌, ◌+◌, ◌*◌, ℕ, List, inl, inr, arith, refl, sym, subst, ◌∙◌}
use Rattle.answer_log.specs.Groups.{group_limit}
use Rattle.answer_log.specs.Handles.{SeesMore, spent_of}
use Rattle.answer_log.specs.Logs.{history}
use Rattle.answer_cache.specs.Carried.{IsCarriedOf, offers_in}
use Rattle.answer_cache.specs.Seats.{Offer}
use Rattle.answer_cache.specs.declared.carried.Entry.{Entry}
use Rattle.answer_cache.proofs.Costing as costs
use Rattle.answer_cache.proofs.Gathering.{carried-more, carried-none, holds-on, on-err, sees-same}
use Rattle.answer_cache.proofs.Placing.{sees-trans}
use Rattle.answer_cache.proofs.shared_cache.SharedCache.carry_groups.Goals as goal

pub groups-init : goal.groups-init
groups-init c =
    let h = c.args.handle.now in
    let C : List Entry → Type 0 = λ entries.
    IsCarriedOf c.args.self.now.groups 0 (history h.book.log) (history h.book.log) c.args.now (offers_in entries) in record {
      holds = record { handle = c.requires.handle; number = refl; seats = refl; groups = refl; same = c.requires.book.0; names = refl };
      seen = sees-same h.number h.book.log;
      node_count = refl;
      carried = subst C (sym c.new-entries.ensures.items)
          (carried-none c.args.self.now.groups (history h.book.log) (history h.book.log) c.args.now);
      costs = costs.free (spent_of h);
    }

pub carry_group-requires-clause-handle : goal.carry_group-requires-clause-handle
carry_group-requires-clause-handle c = c.groups.invariant.holds.handle

pub returns-in_err-carry_group-clause-holds : goal.returns-in_err-carry_group-clause-holds
returns-in_err-carry_group-clause-holds c =
    holds-on c.args.self.now.book c.args.handle.now c.groups.handle c.carry_group.new.handle c.groups.invariant.holds
    c.in_err-carry_group.ensures.holds

pub returns-in_err-carry_group-clause-seen : goal.returns-in_err-carry_group-clause-seen
returns-in_err-carry_group-clause-seen c =
    let i = c.groups.invariant in
    let h = c.args.handle.now in
    let S : ℕ → Type 0 = λ n. SeesMore n c.groups.handle.book.log c.carry_group.new.handle.book.log in
    sees-trans h.number h.book.log c.groups.handle.book.log c.carry_group.new.handle.book.log i.seen
    (subst S i.holds.number c.in_err-carry_group.ensures.seen)

pub returns-in_err-carry_group-clause-costs : goal.returns-in_err-carry_group-clause-costs
returns-in_err-carry_group-clause-costs c =
    let g = c.groups.group in
    let test = c.groups-test.true in
    costs.within _ _ (g * group_limit + group_limit) (c.args.self.now.groups * group_limit) 0 0 (omega arith) (omega arith)
    (costs.both _ (spent_of c.groups.handle) _ (g * group_limit) group_limit 0 0 c.groups.invariant.costs
    c.in_err-carry_group.ensures.costs)

pub returns-in_err-carry_group-clause-wanted : goal.returns-in_err-carry_group-clause-wanted
returns-in_err-carry_group-clause-wanted c =
    let before = c.groups.invariant.costs.missed in
    on-err c.from_residual.result _ (elim c.in_err-carry_group.ensures.wanted [
      | inl some ↦ inl some
      | inr missed ↦ inr (omega arith)
    ])

pub groups-preserved : goal.groups-preserved
groups-preserved c =
    let i = c.groups.invariant in
    let h = c.args.handle.now in
    let g = c.groups.group in
    let mid = c.groups.handle in
    let new = c.carry_group.new.handle in
    let its = c.in_ok-carry_group.ensures in
    let S : ℕ → Type 0 = λ n. SeesMore n mid.book.log new.book.log in
    let seen = subst S i.holds.number its.seen in
    let C : List Offer → Type 0 = λ offers.
    IsCarriedOf c.args.self.now.groups (g + 1) (history h.book.log) (history new.book.log) c.args.now offers in
    record {
      holds = holds-on c.args.self.now.book h mid new i.holds its.holds;
      seen = sees-trans h.number h.book.log mid.book.log new.book.log i.seen seen;
      node_count = its.node_count ∙ i.node_count;
      carried = subst C (sym its.added)
          (carried-more c.args.self.now.groups g (history h.book.log) (history mid.book.log) (history new.book.log) c.args.now
          (offers_in c.groups.entries.items)
          i.seen.stores its.seen.stores i.carried);
      costs = costs.within _ _ (g * group_limit + group_limit) ((g + 1) * group_limit) 0 0 (omega arith) (omega arith)
          (costs.both _ (spent_of mid) _ (g * group_limit) group_limit 0 0 i.costs its.costs);
    }

pub returns-clause-carried : goal.returns-clause-carried
returns-clause-carried c =
    let h = c.args.handle.now in
    let past = c.groups-test.false in
    let C : ℕ → Type 0 = λ n.
    IsCarriedOf c.args.self.now.groups n (history h.book.log) (history c.groups.handle.book.log) c.args.now
    (offers_in c.groups.entries.items) in
    let last : c.groups.group ≡ c.args.self.now.groups = omega arith in
    subst C last c.groups.invariant.carried

pub returns-clause-costs : goal.returns-clause-costs
returns-clause-costs c =
    let past = c.groups-test.false in
    let last : c.groups.group ≡ c.args.self.now.groups = omega arith in
    costs.within _ _ (c.groups.group * group_limit) (c.args.self.now.groups * group_limit) 0 0 (omega arith) (omega arith)
    c.groups.invariant.costs
