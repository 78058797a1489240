use Rattle.std.proofs.Common.{ℕ, ap, arith, subst, refl, ◌∙◌}
use Rattle.std.proofs.lemmas.Result.{err_from_is_err_and}
use Rattle.std.specs.Arc.{arc_value}
use Rattle.answer_log.specs.Groups.{group_limit}
use Rattle.answer_log.specs.Handles.{SeesMore, spent_of}
use Rattle.answer_log.specs.Steps.{store_by}
use Rattle.answer_cache.specs.Nodes.{store_in}
use Rattle.answer_cache.proofs.Costing as costing
use Rattle.answer_cache.proofs.Gathering.{holds-on}
use Rattle.answer_cache.proofs.Placing.{leaves-on, lost-on, put-on, sees-trans, store-is}
use Rattle.answer_cache.proofs.shared_cache.SharedCache.put.Goals as goal

pub returns-in_err-pushed-clause-put : goal.returns-in_err-pushed-clause-put
returns-in_err-pushed-clause-put g c =
    let h = c.args.handle.now in
    let e = err_from_is_err_and c.from_residual-in_err-pushed.result c.from_residual-in_err-pushed.ensures.1 in
    let S : ℕ → Type 0 = λ n. SeesMore n c.room.new.handle.book.log c.make_ready.new.handle.book.log in
    rw e.1 (sees-trans h.number h.book.log c.room.new.handle.book.log c.make_ready.new.handle.book.log c.room.ensures.seen
    (subst S c.room.ensures.holds.number c.make_ready.ensures.seen))

pub returns-clause-put : goal.returns-clause-put
returns-clause-put g c =
    let h = c.args.handle.now in
    let w = c.args.wanted.now in
    let k = c.make_ready.new.handle in
    let node = c.in_ok-pushed.pushed.value in
    let S : ℕ → Type 0 = λ n. SeesMore n c.room.new.handle.book.log k.book.log in
    let number = c.make_ready.ensures.holds.number ∙ c.room.ensures.holds.number in
    let sees = sees-trans h.number h.book.log c.room.new.handle.book.log k.book.log c.room.ensures.seen
    (subst S c.room.ensures.holds.number c.make_ready.ensures.seen) in
    let its = rw c.value.ensures at c.compete.ensures.competed in
    put-on c.compete.result h.number k.number (store_in k.number node)
    (store_by h.number w.question.now (arc_value w.answer.now) w.moment) h.book.log k.book.log c.compete.new.handle.book.log
    number (store-is k.number h.number node w.question.now (arc_value w.answer.now) w.moment number c.in_ok-pushed.ensures.made) refl sees
    its

pub returns-clause-lost : goal.returns-clause-lost
returns-clause-lost g c =
    let node = c.in_ok-pushed.pushed.value in
    let r = c.room.new.handle in
    let k = c.make_ready.new.handle in
    let its = rw c.value.ensures at c.compete.ensures.lost in
    lost-on c.args.self.now.groups c.compete.result node.question c.args.wanted.now.question.now c.args.handle.now.book.log r.book.log
    k.book.log
    c.compete.new.handle.book.log c.in_ok-old.old (spent_of k) (spent_of c.compete.new.handle) c.in_ok-pushed.ensures.made.0
    c.room.ensures.seen.stores
    c.make_ready.ensures.seen.later c.in_ok-old.ensures.room.0 its

pub returns-clause-leaves : goal.returns-clause-leaves
returns-clause-leaves g c =
    let h = c.args.handle.now in
    let r = c.room.new.handle in
    let k = c.make_ready.new.handle in
    let node = c.in_ok-pushed.pushed.value in
    let costs = c.room.ensures.costs in
    let spent = c.make_ready.ensures.spent in
    let its = rw c.value.ensures at c.compete.ensures.lost in
    leaves-on c.args.self.now.groups c.compete.result node.question c.args.wanted.now.question.now h k c.compete.new.handle r.book.log
    c.in_ok-old.old
    (let a = ap (λ s. s.tries) spent in omega (arith, costs.before)) (let a = ap (λ s. s.missed) spent in omega (arith, costs.missed))
    c.compete.ensures.tried c.in_ok-pushed.ensures.made.0
    c.make_ready.ensures.seen.later c.in_ok-old.ensures.room.0 its

pub returns-in_err-old-clause-costs : goal.returns-in_err-old-clause-costs
returns-in_err-old-clause-costs g c =
    costing.look-alone (spent_of c.args.handle.now) (spent_of c.room.new.handle) c.room.ensures.costs

pub returns-in_err-pushed-clause-holds : goal.returns-in_err-pushed-clause-holds
returns-in_err-pushed-clause-holds g c =
    holds-on c.args.self.now.book c.args.handle.now c.room.new.handle c.make_ready.new.handle c.room.ensures.holds
    c.make_ready.ensures.holds

pub returns-in_err-pushed-clause-costs : goal.returns-in_err-pushed-clause-costs
returns-in_err-pushed-clause-costs g c =
    let old = spent_of c.args.handle.now in
    let new = spent_of c.make_ready.new.handle in
    costing.look-alone old new
    (costing.same old (spent_of c.room.new.handle) new group_limit 0 c.make_ready.ensures.spent c.room.ensures.costs)

pub returns-clause-holds : goal.returns-clause-holds
returns-clause-holds g c =
    let book = c.args.self.now.book in
    let h = c.args.handle.now in
    holds-on book h c.make_ready.new.handle c.compete.new.handle
    (holds-on book h c.room.new.handle c.make_ready.new.handle c.room.ensures.holds c.make_ready.ensures.holds) c.compete.ensures.holds

pub returns-clause-costs : goal.returns-clause-costs
returns-clause-costs g c =
    costing.look-and_more (spent_of c.args.handle.now) (spent_of c.room.new.handle) (spent_of c.make_ready.new.handle)
    (spent_of c.compete.new.handle) c.make_ready.ensures.spent c.room.ensures.costs c.compete.ensures.costs
