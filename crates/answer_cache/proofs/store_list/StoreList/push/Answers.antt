use Rattle.std.proofs.Common.{◌∙◌, ◌%◌, List, [], ◌∷◌, ◌++◌, ℕ, ap, arith, subst, sym}
use Rattle.std.specs.declared.alloc.Global.{Global}
use Rattle.std.specs.declared.vec.Vec.{Vec}
use Rattle.answer_log.specs.Histories.{IsFull}
use Rattle.answer_cache.specs.Marks.{StoresView}
use Rattle.answer_cache.specs.declared.store_list.Mark.{Mark}
use Rattle.answer_cache.proofs.Adding.{few-stores, kept-more, kept-same, low, some-groups}
use Rattle.answer_cache.proofs.store_list.StoreList.push.Goals as goal

abbrev V : Type 0
V = Vec Mark Global

pub index_mut-marks-requires : goal.index_mut-marks-requires
index_mut-marks-requires c =
    let entries = c.self.inside.entries.items in
    let groups = c.self.inside.groups in
    let some = some-groups groups entries c.self.inside.marks.items c.self.invariant in
    let all = c.in_ok-make_lists.ensures.made entries c.self.invariant in
    let small = low groups c.args.hash some in
    let group = c.group-group.ensures in
    let same = ap (λ (it : StoresView). c.args.hash % it.groups) c.self.view_is in
    let size = c.make_lists.new.marks.ok.0 in
    omega (arith, all, small, group, same, size)

pub invariant_of-self : goal.invariant_of-self
invariant_of-self c = c.make_lists.ensures.keeps c.self.inside.entries.items c.self.invariant

pub invariant_of-self-in_err-reserve : goal.invariant_of-self-in_err-reserve
invariant_of-self-in_err-reserve c =
    let entries = c.self.inside.entries.items in
    let groups = c.self.inside.groups in
    let marks = c.make_lists.new.marks.items in
    let kept = c.make_lists.ensures.keeps entries c.self.invariant in
    let all = c.in_ok-make_lists.ensures.made entries c.self.invariant in
    let some = some-groups groups entries marks kept in
    let small = low groups c.args.hash some in
    let group = c.group-group.ensures in
    let same = ap (λ (it : StoresView). c.args.hash % it.groups) c.self.view_is in
    kept-same groups entries marks kept c.group-group.result (omega (arith, all, small, group, same)) c.index_mut-marks.result.now
    c.reserve.new.self (c.reserve.ensures.items ∙ ap (λ (it : V). it.items) c.index_mut-marks.ensures.value)

pub invariant_of-self-in_err-push : goal.invariant_of-self-in_err-push
invariant_of-self-in_err-push c =
    let entries = c.self.inside.entries.items in
    let groups = c.self.inside.groups in
    let marks = c.make_lists.new.marks.items in
    let kept = c.make_lists.ensures.keeps entries c.self.invariant in
    let all = c.in_ok-make_lists.ensures.made entries c.self.invariant in
    let some = some-groups groups entries marks kept in
    let small = low groups c.args.hash some in
    let group = c.group-group.ensures in
    let same = ap (λ (it : StoresView). c.args.hash % it.groups) c.self.view_is in
    rw c.in_err-push.ensures.items
    (kept-same groups entries marks kept c.group-group.result (omega (arith, all, small, group, same)) c.index_mut-marks.result.now
    c.reserve.new.self (c.reserve.ensures.items ∙ ap (λ (it : V). it.items) c.index_mut-marks.ensures.value))

pub invariant_of-self-2 : goal.invariant_of-self-2
invariant_of-self-2 c =
    let entries = c.self.inside.entries.items in
    let groups = c.self.inside.groups in
    let marks = c.make_lists.new.marks.items in
    let by = c.requires.hash in
    let its = c.group-group.ensures
    ∙ (ap (λ (it : StoresView). c.args.hash % it.groups) (sym c.self.view_is) ∙ ap (λ (h : ℕ). h % groups) by) in
    rw c.in_ok-push.ensures.items
    (kept-more groups entries c.args.entry marks c.push-2.new.self c.group-group.result its
    c.requires.sound (subst (λ (it : StoresView). IsFull it.groups it.stores c.args.entry.question → ⊥) (sym c.self.view_is) c.requires.room)
    c.index_mut-marks.result.now (record { hash = c.args.hash; place = c.len-place.result })
    by (c.len-place.ensures ∙ c.self.inside.entries.ok.0)
    (c.in_ok-push-2.ensures.items ∙ ap (λ (l : List Mark). l ++ record { hash = c.args.hash; place = c.len-place.result } ∷ [])
    (c.reserve.ensures.items ∙ ap (λ (it : V). it.items) c.index_mut-marks.ensures.value))
    (c.in_ok-make_lists.ensures.made entries c.self.invariant) (c.make_lists.ensures.keeps entries c.self.invariant))

pub overflow_cast-place : goal.overflow_cast-place
overflow_cast-place c =
    let few = few-stores c.self.inside.groups c.self.inside.entries.items c.self.invariant.count c.self.invariant.history in
    let size = c.self.inside.entries.ok.0 in
    let len = c.len-place.ensures in
    omega (arith, few, size, len)
