use Rattle.std.proofs.Common.{ℕ, List, None, ap, arith, subst, sym, ◌∙◌}
use Rattle.std.specs.List.{last_or}
use Rattle.answer_log.specs.Groups.{group_in, group_limit}
use Rattle.answer_log.specs.Handles.{SeesMore, spent_of}
use Rattle.answer_log.specs.Histories.{in_group, stores_of}
use Rattle.answer_log.specs.Logs.{groups_in, history}
use Rattle.answer_log.specs.Cursors.{Ahead}
use Rattle.answer_log.specs.Spending.{Spending}
use Rattle.answer_log.specs.declared.event.Event.{Event}
use Rattle.answer_cache.specs.Nodes.{Costs}
use Rattle.answer_cache.specs.Shared.{CacheView}
use Rattle.answer_log.proofs.Chains.{group-low}
use Rattle.answer_cache.proofs.Indexing.{last-on, ok-found}
use Rattle.answer_cache.proofs.Lookups.{grouped}
use Rattle.answer_cache.proofs.shared_cache.SharedCache.last_by.Goals as goal

pub cursor_after-cursor-requires-clause-group : goal.cursor_after-cursor-requires-clause-group
cursor_after-cursor-requires-clause-group c =
    let groups : ℕ = c.args.self.now.groups in
    let least = c.requires.handle.group_count.0 in
    let same = c.requires.book.1 in
    let low = group-low groups (omega arith) c.args.asked.now.question.now in
    let is = c.requires.group in
    let log = ap (λ v. v.groups) c.self.view_is in
    omega arith

pub last_told-requires-clause-groups : goal.last_told-requires-clause-groups
last_told-requires-clause-groups c =
    let it = c.cursor_after-cursor.ensures in
    let least = c.requires.handle.group_count.0 in
    let same = c.requires.book.1 in (
      ap (λ log. groups_in log) it.cursor.1 ∙ (it.handle.groups ∙ (it.number.2 ∙ same)),
      omega arith,
    )

pub returns-clause-last : goal.returns-clause-last
returns-clause-last c =
    let q = c.args.asked.now.question.now in
    let cursor = c.cursor_after-cursor in
    let stores = history cursor.new.handle.book.log in
    let groups : ℕ = c.args.self.now.groups in
    let same = ap (λ b. history b.log) c.last_told.ensures.same.book in
    let V : CacheView → Type 0 = λ cache. Ahead cursor.result (in_group cache.groups c.args.group stores) in
    let A : ℕ → Type 0 = λ group. Ahead cursor.result (in_group groups group stores) in
    let ahead = subst A c.requires.group (subst V c.self.view_is cursor.ensures.ahead) in
    ok-found c.last_told.result (λ found it. last-on q (history c.last_told.new.handle.book.log)
    (in_group groups (group_in groups q) stores) _
    (ap (λ w. last_or None (stores_of q w)) same
    ∙ ap (last_or None) (sym (grouped groups c.law_same_questions_are_equal.ensures q stores)))
    (it (in_group groups (group_in groups q) stores) ahead)) c.last_told.ensures.last

pub returns-clause-holds : goal.returns-clause-holds
returns-clause-holds c =
    let cursor = c.cursor_after-cursor.ensures in
    let it = c.last_told.ensures.same in
    record {
      handle = it.handle;
      number = it.number ∙ cursor.number.0;
      seats = it.seats ∙ cursor.number.1;
      groups = it.groups ∙ cursor.number.2;
      same = ap (λ b. b.book) it.book ∙ (cursor.book.0 ∙ ap (λ v. v.book) c.self.view_is);
      names = ap (λ b. b.names) it.book ∙ cursor.book.1;
    }

pub returns-clause-seen : goal.returns-clause-seen
returns-clause-seen c =
    let h = c.args.handle.now in
    let S : List Event → Type 0 = λ log. SeesMore h.number h.book.log log in
    subst S (sym (ap (λ b. b.log) c.last_told.ensures.same.book)) c.cursor_after-cursor.ensures.seen

pub returns-clause-costs : goal.returns-clause-costs
returns-clause-costs c =
    let C : Spending → Type 0 = λ spent. Costs spent (spent_of c.last_told.new.handle) group_limit 0 in
    subst C c.cursor_after-cursor.ensures.spent c.last_told.ensures.costs
