use Rattle.std.proofs.Common.{◌∙◌, List, ℕ, ap, not, subst, sym}
use Rattle.dns_message.specs.declared.question.Question.{Question}
use Rattle.answer_log.specs.Histories.{IsFull, IsHistory}
use Rattle.answer_log.specs.declared.store.Store.{Store}
use Rattle.answer_cache.specs.Marks.{StoresView}
use Rattle.answer_cache.specs.Seats.{Offer}
use Rattle.answer_cache.proofs.Following.{added-then, leaves-it-dead, leaves-it-older, ok-turn, on-err, room-for-it, some-live-then, sound-again}
use Rattle.answer_cache.proofs.store_list.StoreList.add_living.Goals as goal

abbrev stored : StoresView → List Store
stored it = it.stores

pub returns-then-not-lives_at-clause-added : goal.returns-then-not-lives_at-clause-added
returns-then-not-lives_at-clause-added c =
    leaves-it-dead c.from.inside.entries.items c.args.from.now.stores (ap stored c.from.view_is) c.args.place
    c.requires.place c.index-entry.result.now c.index-entry.ensures c.args.now c.args.self.now.stores c.requires.before
    (sym c.lives_at.ensures ∙ c.if-not-lives_at.true)

pub returns-then-not-is_last-clause-added : goal.returns-then-not-is_last-clause-added
returns-then-not-is_last-clause-added c =
    leaves-it-older c.from.inside.entries.items c.args.from.now.stores (ap stored c.from.view_is) c.args.place
    c.requires.place c.index-entry.result.now c.index-entry.ensures c.args.now c.args.self.now.stores c.requires.before
    (c.is_last.ensures ∙ ap not c.if-not-is_last.true)

pub returns-in_err-try_clone-clause-wanted : goal.returns-in_err-try_clone-clause-wanted
returns-in_err-try_clone-clause-wanted c =
    on-err c.from_residual.result (some-live-then c.from.inside.entries.items c.args.from.now.stores (ap stored c.from.view_is) c.args.place
    c.requires.place c.index-entry.result.now c.index-entry.ensures c.args.now c.args.self.now.stores c.requires.before
    (c.is_last.ensures ∙ ap not c.if-not-is_last.false)
    (sym c.lives_at.ensures ∙ c.if-not-lives_at.false))

pub push-requires-clause-sound : goal.push-requires-clause-sound
push-requires-clause-sound c =
    sound-again c.from.inside.entries.items c.args.from.now.stores (ap stored c.from.view_is) c.args.place
    c.requires.place c.index-entry.result.now c.index-entry.ensures
    c.args.from.now.groups (subst (λ (it : StoresView). IsHistory it.groups it.stores) c.from.view_is c.from.invariant.history)
    c.in_ok-try_clone.field-0 c.in_ok-try_clone.ensures

pub push-requires-clause-room : goal.push-requires-clause-room
push-requires-clause-room c =
    let R : Question → Type 0 = λ question. IsFull c.args.from.now.groups c.args.self.now.stores question → ⊥ in
    subst (λ (groups : ℕ). IsFull groups c.args.self.now.stores c.in_ok-try_clone.field-0.question → ⊥) (sym c.requires.groups)
    (subst R (sym (ap (λ (it : Offer). it.question) c.in_ok-try_clone.ensures))
    (room-for-it c.from.inside.entries.items c.args.from.now.stores (ap stored c.from.view_is) c.args.place
    c.requires.place c.index-entry.result.now c.index-entry.ensures c.args.now c.args.self.now.stores c.requires.before
    (c.is_last.ensures ∙ ap not c.if-not-is_last.false)
    (sym c.lives_at.ensures ∙ c.if-not-lives_at.false)
    c.args.from.now.groups (subst (λ (it : StoresView). IsHistory it.groups it.stores) c.from.view_is c.from.invariant.history)))

pub returns-clause-added : goal.returns-clause-added
returns-clause-added c =
    ok-turn c.push.result (added-then c.from.inside.entries.items c.args.from.now.stores (ap stored c.from.view_is) c.args.place
    c.requires.place c.index-entry.result.now c.index-entry.ensures c.args.now c.args.self.now.stores c.requires.before
    (c.is_last.ensures ∙ ap not c.if-not-is_last.false)
    (sym c.lives_at.ensures ∙ c.if-not-lives_at.false)
    c.push.new.self.stores c.in_ok-try_clone.field-0 c.in_ok-try_clone.ensures)
    (ok-turn c.push.result (λ more. ap stored more) c.push.ensures.added)

pub returns-clause-wanted : goal.returns-clause-wanted
returns-clause-wanted c =
    on-err c.push.result (some-live-then c.from.inside.entries.items c.args.from.now.stores (ap stored c.from.view_is) c.args.place
    c.requires.place c.index-entry.result.now c.index-entry.ensures c.args.now c.args.self.now.stores c.requires.before
    (c.is_last.ensures ∙ ap not c.if-not-is_last.false)
    (sym c.lives_at.ensures ∙ c.if-not-lives_at.false))
