use Rattle.std.proofs.Common.{◌≡◌, ◌≢◌, ◌<◌, ◌++◌, [], Bor, ℕ, List, inl, inr, map, ap, sym, subst, ◌∙◌}
use Rattle.std.specs.List.{filter}
use Rattle.answer_log.specs.Cursors.{Ahead}
use Rattle.answer_log.specs.Handles.{spent_of}
use Rattle.answer_log.specs.Histories.{in_group}
use Rattle.answer_log.specs.Logs.{history}
use Rattle.answer_log.specs.Spending.{Spending}
use Rattle.answer_log.specs.declared.event.Event.{Event}
use Rattle.answer_cache.specs.Carried.{last_stores, lives_at, offers_in, unseated}
use Rattle.answer_cache.specs.Nodes.{offer_of_node}
use Rattle.answer_cache.specs.Seats.{Offer}
use Rattle.answer_cache.specs.Shared.{CacheView}
use Rattle.answer_cache.specs.declared.node.Node.{Node}
use Rattle.answer_cache.proofs.Gathering.{few-in, from-group, from-nodes, on-err, turn-err, turn-ok, turned-lasts}
use Rattle.answer_cache.proofs.shared_cache.SharedCache.carry_group.Goals as goal

abbrev said : Bor Node → Offer
said node = offer_of_node node.now

pub last_nodes-requires-clause-ahead : goal.last_nodes-requires-clause-ahead
last_nodes-requires-clause-ahead c =
    let groups : ℕ = c.args.self.now.groups in
    let A : CacheView → Type 0 = λ cache.
    Ahead c.cursor-cursor.result (in_group cache.groups c.args.group (history c.cursor-cursor.new.handle.book.log)) in
    let ahead = subst A c.self.view_is c.cursor-cursor.ensures.ahead in
    let stores = in_group groups c.args.group (history c.cursor-cursor.new.handle.book.log) in
    let it = c.cursor-cursor.ensures in (
      stores,
      ahead,
      few-in groups c.args.group c.cursor-cursor.result.seen.log c.cursor-cursor.new.handle.book.log
          c.law_log_keeps_its_rule.ensures.history it.cursor.1 (it.handle.groups ∙ (it.number.2 ∙ c.requires.book.1)),
    )

pub returns-in_err-nodes-clause-wanted : goal.returns-in_err-nodes-clause-wanted
returns-in_err-nodes-clause-wanted c =
    let groups : ℕ = c.args.self.now.groups in
    let A : CacheView → Type 0 = λ cache.
    Ahead c.cursor-cursor.result (in_group cache.groups c.args.group (history c.cursor-cursor.new.handle.book.log)) in
    let ahead = subst A c.self.view_is c.cursor-cursor.ensures.ahead in
    let same = ap (λ b. b.log) c.in_err-nodes.ensures.same.book in
    let S : List Event → Type 0 = λ log. history log ≢ [] in
    let M : Spending → Type 0 = λ spent. spent.missed < (spent_of c.last_nodes.new.handle).missed in
    on-err c.from_residual.result _ (elim c.in_err-nodes.ensures.wanted [
      | inl some ↦ inl (subst S (sym same)
          (from-group groups c.args.group (history c.cursor-cursor.new.handle.book.log) (some _ ahead)))
      | inr missed ↦ inr (subst M c.cursor-cursor.ensures.spent missed)
    ])

pub returns-clause-added : goal.returns-clause-added
returns-clause-added c =
    let groups : ℕ = c.args.self.now.groups in
    let A : CacheView → Type 0 = λ cache.
    Ahead c.cursor-cursor.result (in_group cache.groups c.args.group (history c.cursor-cursor.new.handle.book.log)) in
    let ahead = subst A c.self.view_is c.cursor-cursor.ensures.ahead in
    let group = c.args.group in
    let its = c.in_ok-nodes.ensures in
    let log = c.cursor-cursor.new.handle.book.log in
    let same = ap (λ b. b.log) its.same.book in
    let it = c.cursor-cursor.ensures in
    let few = few-in groups group c.cursor-cursor.result.seen.log log c.law_log_keeps_its_rule.ensures.history it.cursor.1
    (it.handle.groups ∙ (it.number.2 ∙ c.requires.book.1)) in
    let turned : List (Bor Node) = c.deref.result.now in
    let said-all : map said turned ≡ map unseated (last_stores (in_group groups group (history log))) =
    turned-lasts said c.in_ok-nodes.nodes.items turned (map unseated (last_stores (in_group groups group (history log))))
    (c.deref.ensures.value ∙ c.reverse.ensures.items)
    (its.last (in_group groups group (history log)) ahead few) in
    turn-ok c.add_living.result _ _ (λ added. added
    ∙ ap (λ offers. offers_in c.args.entries.now.items ++ filter (lives_at c.args.now) offers)
    (said-all ∙ ap (λ l. map unseated (last_stores (in_group groups group (history l)))) (sym same))) c.add_living.ensures.added

pub returns-clause-wanted : goal.returns-clause-wanted
returns-clause-wanted c =
    let groups : ℕ = c.args.self.now.groups in
    let A : CacheView → Type 0 = λ cache.
    Ahead c.cursor-cursor.result (in_group cache.groups c.args.group (history c.cursor-cursor.new.handle.book.log)) in
    let ahead = subst A c.self.view_is c.cursor-cursor.ensures.ahead in
    let group = c.args.group in
    let its = c.in_ok-nodes.ensures in
    let log = c.cursor-cursor.new.handle.book.log in
    let same = ap (λ b. b.log) its.same.book in
    let it = c.cursor-cursor.ensures in
    let S : List Event → Type 0 = λ l. history l ≢ [] in
    let few = few-in groups group c.cursor-cursor.result.seen.log log c.law_log_keeps_its_rule.ensures.history it.cursor.1
    (it.handle.groups ∙ (it.number.2 ∙ c.requires.book.1)) in
    let turned : List (Bor Node) = c.deref.result.now in
    let said-all : map said turned ≡ map unseated (last_stores (in_group groups group (history log))) =
    turned-lasts said c.in_ok-nodes.nodes.items turned (map unseated (last_stores (in_group groups group (history log))))
    (c.deref.ensures.value ∙ c.reverse.ensures.items)
    (its.last (in_group groups group (history log)) ahead few) in
    turn-err c.add_living.result _ _ (λ some. inl (subst S (sym same) (from-nodes said turned groups group (history log) said-all some)))
    c.add_living.ensures.wanted
