use Rattle.std.proofs.Common.{◌≡◌, ◌-◌, ◌%◌, ◌<◌, ◌∙◌, ℕ, List, ap, arith, get_or, length, false, subst, sym, take}
use Rattle.std.proofs.lemmas.List.{nil_from_length}
use Rattle.std.specs.declared.alloc.Global.{Global}
use Rattle.std.specs.declared.vec.Vec.{Vec}
use Rattle.answer_log.specs.Groups.{group_in}
use Rattle.answer_cache.specs.Carried.{has_question}
use Rattle.answer_cache.specs.Marks.{IsLastAt, StoresView, marks_of}
use Rattle.answer_cache.specs.declared.store_list.Mark.{Mark}
use Rattle.answer_cache.proofs.Adding.{counted}
use Rattle.answer_cache.proofs.Searching.{begins, ends, fewer, finds, last-item, passes-entry, passes-hash, stop, within}
use Rattle.answer_cache.proofs.store_list.StoreList.last_place.Goals as goal
use Rattle.answer_cache.proofs.store_list.StoreList.last_place.Goals.{else-last-hash-via-then-last-hash+else-eq, else-last-hash-via-else-last-hash}

abbrev V : Type 0
V = Vec Mark Global

pub loop-left-init : goal.loop-left-init
loop-left-init c =
    let entries = c.self.inside.entries.items in
    let marks = c.self.inside.marks.items in
    let groups = c.self.inside.groups in
    let at = c.group.result in
    let found = c.in_ok-get.field-0.now in
    let looked = c.in_ok-get.ensures.lookup in
    let here = c.deref.ensures.value in
    let low-there : at < length marks = subst (λ (l : List V). at < length l) here looked.3.0 in
    let is : at ≡ group_in groups c.args.question.now =
    c.group.ensures
    ∙ (ap (λ (it : StoresView). c.args.hash % it.groups) (sym c.self.view_is) ∙ ap (λ (h : ℕ). h % groups) c.requires) in
    let said = c.as_slice-left.ensures.value
    ∙ (ap (λ (it : V). it.items) looked.1 ∙ ap (λ (l : List V). (get_or l at found).items) here) in
    let size = counted groups entries marks c.self.invariant at found low-there in
    let same = ap length said in
    let most = c.self.invariant.history.few at in record {
      few = omega (arith, size, same, most);
      searches = begins groups c.args.question.now entries c.as_slice-left.result.now
          (said ∙ (c.self.invariant.each at found low-there ∙ ap (λ (n : ℕ). marks_of groups n entries) is));
    }

pub offset_bounds-left-left : goal.offset_bounds-left-left
offset_bounds-left-left c = let few = c.loop-left.invariant.few in omega arith

pub index-requires : goal.index-requires
index-requires c =
    let same = c.law_same_questions_are_equal.ensures in
    let q = c.args.question.now in
    let groups = c.self.inside.groups in
    let entries = c.self.inside.entries.items in
    let left = c.loop-left.left.now in
    let d : Mark = record { hash = 0; place = 0 } in
    let before = take (length left - 1) left in
    let mark = get_or left (length left - 1) d in
    rw c.self.inside.entries.ok.0 (within groups same q entries before mark
    (stop groups same q entries left before mark c.loop-left.invariant.searches (last-item left d c.in-len1-up.len_at_least)))

pub returns-then-eq : goal.returns-then-eq
returns-then-eq c =
    let same = c.law_same_questions_are_equal.ensures in
    let q = c.args.question.now in
    let groups = c.self.inside.groups in
    let entries = c.self.inside.entries.items in
    let left = c.loop-left.left.now in
    let d : Mark = record { hash = 0; place = 0 } in
    let before = take (length left - 1) left in
    let mark = get_or left (length left - 1) d in
    subst (λ (it : StoresView). IsLastAt q it.stores mark.place) c.self.view_is (finds groups same q entries before mark
    (stop groups same q entries left before mark c.loop-left.invariant.searches (last-item left d c.in-len1-up.len_at_least))
    c.index.result.now c.index.ensures (sym c.eq.ensures.value ∙ c.if-eq.true))

pub loop-left-preserved : goal.loop-left-preserved
loop-left-preserved c =
    let same = c.law_same_questions_are_equal.ensures in
    let q = c.args.question.now in
    let groups = c.self.inside.groups in
    let entries = c.self.inside.entries.items in
    let left = c.loop-left.left.now in
    let d : Mark = record { hash = 0; place = 0 } in
    let before = take (length left - 1) left in
    let mark = get_or left (length left - 1) d in
    let here = stop groups same q entries left before mark c.loop-left.invariant.searches (last-item left d c.in-len1-up.len_at_least) in
    record {
      few = fewer left 128 c.loop-left.invariant.few;
      searches = elim c.else-last-hash.branch [
        | else-last-hash-via-then-last-hash+else-eq w ↦
            passes-entry groups same q entries before mark here w.index.result.now w.index.ensures (sym w.eq.ensures.value ∙ w.if-eq.false)
        | else-last-hash-via-else-last-hash w ↦
            passes-hash groups same q entries before mark here (λ e. w.if-last-hash.false (e ∙ sym c.requires))
      ];
    }

pub returns : goal.returns
returns c =
    let left = c.loop-left.left.now in
    let few = c.in_default.len_below in
    let none : length left ≡ 0 = omega (arith, few) in
    subst (λ (it : StoresView). has_question c.args.question.now it.stores ≡ false) c.self.view_is
    (ends c.self.inside.groups c.law_same_questions_are_equal.ensures c.args.question.now c.self.inside.entries.items left
    c.loop-left.invariant.searches (nil_from_length left none))
