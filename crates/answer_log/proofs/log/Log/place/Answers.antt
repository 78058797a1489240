use Rattle.std.proofs.Common.{◌≡◌, ◌<◌, ℕ, List, MatchBool, length, refl, subst, arith}
use mathlib.Core.List.{IsPrefix}
use Rattle.answer_log.specs.Groups.{group_in}
use Rattle.answer_log.specs.Logs.{history, top}
use Rattle.answer_log.specs.declared.event.Event.{Event}
use Rattle.answer_log.proofs.Chains.{group-low}
use Rattle.answer_log.specs.Steps.{store_of}
use Rattle.answer_log.proofs.Handling.{tried_handle, tried_sees, tried_lost}
use Rattle.answer_log.proofs.log.Log.place.Goals as goal

pub returns-clause-handle : goal.returns-clause-handle
returns-clause-handle c =
    let h = c.args.handle.now in
    let d = c.args.new_store.now in
    let t = c.place in
    tried_handle h d.node (store_of d) c.args.link.now.key c.args.old c.args.pen.now.nib t.new.pen.nib c.requires.handle c.requires.seat
    _ refl refl refl refl t.ensures.book.1 t.ensures.tally
    t.ensures.later t.result t.ensures.tried

pub returns-clause-placed : goal.returns-clause-placed
returns-clause-placed c =
    let h = c.args.handle.now in
    let d = c.args.new_store.now in
    let t = c.place in
    tried_sees h d.node (store_of d) c.args.link.now.key c.args.old c.args.pen.now.nib t.new.pen.nib c.requires.handle c.requires.seat
    t.new.book.log t.new.tally t.ensures.later t.result t.ensures.tried

pub returns-clause-lost : goal.returns-clause-lost
returns-clause-lost c =
    let h = c.args.handle.now in
    let d = c.args.new_store.now in
    let t = c.place in
    let L : ℕ → Type 0 = λ groups. MatchBool t.result (Unit {0}) ((seen : List Event) → IsPrefix seen h.book.log
    → top groups (group_in groups d.question.now) seen ≡ c.args.old → length (history seen) < length (history t.new.book.log)) in
    subst L c.requires.groups
    (tried_lost h d.node (store_of d) c.args.link.now.key c.args.old c.args.pen.now.nib t.new.pen.nib c.requires.handle c.requires.seat
    t.new.book.log t.new.tally t.ensures.later t.result t.ensures.tried)

pub head-requires : goal.head-requires
head-requires c =
    let groups : ℕ = c.args.self.now.groups in
    let handle = c.requires.handle.group_count.0 in
    let same = c.requires.groups in
    let low = group-low groups (omega arith) c.args.new_store.now.question.now in
    let is = c.requires.group in
    omega arith
