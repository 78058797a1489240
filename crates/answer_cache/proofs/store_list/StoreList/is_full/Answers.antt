use Rattle.std.proofs.Common.{◌≡◌, ◌%◌, ◌≤◌, ◌<◌, ◌∙◌, ℕ, List, ap, arith, get_or, length, subst, sym}
use Rattle.std.proofs.lemmas.Bool.Decides.{nat_tests}
use Rattle.std.specs.declared.alloc.Global.{Global}
use Rattle.std.specs.declared.vec.Vec.{Vec}
use Rattle.answer_log.specs.Histories.{in_group}
use Rattle.answer_cache.specs.Marks.{StoresView, stores_in}
use Rattle.answer_cache.specs.declared.carried.Entry.{Entry}
use Rattle.answer_cache.specs.declared.store_list.Mark.{Mark}
use Rattle.answer_cache.proofs.Adding.{counted, low, nothing-kept, some-groups}
use Rattle.answer_cache.proofs.store_list.StoreList.is_full.Goals as goal

abbrev size-in : ℕ → StoresView → ℕ
size-in hash it = length (in_group it.groups (hash % it.groups) it.stores)

pub returns-in-Some : goal.returns-in-Some
returns-in-Some c =
    let entries = c.self.inside.entries.items in
    let marks = c.self.inside.marks.items in
    let groups = c.self.inside.groups in
    let at = c.group.result in
    let found = c.in-Some.marks.now in
    let looked = c.in-Some.ensures.lookup in
    let V : Type 0 = Vec Mark Global in
    let same = c.deref.ensures.value in
    let within : at < length marks = subst (λ (l : List V). at < length l) same looked.3.0 in
    let is : at ≡ c.args.hash % groups = c.group.ensures ∙ ap (λ (it : StoresView). c.args.hash % it.groups) (sym c.self.view_is) in
    let all : c.len.result ≡ size-in c.args.hash c.args.self.now =
    c.len.ensures
    ∙ (found.ok.0
    ∙ (ap (λ (it : V). length it.items) looked.1
    ∙ (ap (λ (l : List V). length (get_or l at found).items) same
    ∙ (counted groups entries marks c.self.invariant at found within
    ∙ (ap (λ (n : ℕ). length (in_group groups n (stores_in entries))) is ∙ ap (size-in c.args.hash) c.self.view_is))))) in (
      λ full. let some : 128 ≤ c.len.result = grind (arith, nat_tests) in subst (λ (n : ℕ). 128 ≤ n) all some,
      λ full. let some : 128 ≤ c.len.result = subst (λ (n : ℕ). 128 ≤ n) (sym all) full in grind (arith, nat_tests),
    )

pub returns-in-None : goal.returns-in-None
returns-in-None c =
    let entries = c.self.inside.entries.items in
    let marks = c.self.inside.marks.items in
    let groups = c.self.inside.groups in
    let V : Type 0 = Vec Mark Global in
    let some = some-groups groups entries marks c.self.invariant in
    let is = c.group.ensures ∙ ap (λ (it : StoresView). c.args.hash % it.groups) (sym c.self.view_is) in
    let past : length marks ≤ c.group.result =
    subst (λ (l : List V). length l ≤ c.group.result) c.deref.ensures.value c.in-None.ensures.lookup.3 in
    let small = low groups c.args.hash some in
    let nothing = nothing-kept groups entries marks c.self.invariant (c.args.hash % groups) small (omega (arith, past, is)) in
    let none : 0 ≡ size-in c.args.hash c.args.self.now =
    sym (ap (λ (l : List Entry). length (in_group groups (c.args.hash % groups) (stores_in l))) nothing)
    ∙ ap (size-in c.args.hash) c.self.view_is in (
      λ full. absurd cc,
      λ full. absurd (omega (arith, none, full)),
    )
