use Rattle.std.proofs.Common.{◌≡◌, List, sym, subst}
use Rattle.answer_log.specs.Handles.{IsPlaced}
use Rattle.answer_log.specs.Logs.{In}
use Rattle.answer_log.specs.declared.event.Event.{Event}
use Rattle.answer_log.specs.declared.event.Event.TheVariants.{Placed}
use Rattle.answer_log.specs.declared.store.Store.{Store}
use Rattle.answer_log.proofs.Logs.{in-here, in-left}
use Rattle.answer_log.proofs.Walking.{is-next, passed}
use Rattle.answer_log.proofs.cursor.Cursor.pass.Goals as goal

pub node_before-self-requires-clause-placed : goal.node_before-self-requires-clause-placed
node_before-self-requires-clause-placed c =
    let ahead = c.requires.ahead in
    let it = is-next c.args.self.now ahead.0 c.requires.node ahead.1 in
    (it.before, it.after, it.store, it.link, it.whole)

pub returns-clause-passed : goal.returns-clause-passed
returns-clause-passed c store left named ahead =
    let old = c.args.self.now in
    let b = c.node_before-self in
    let it = is-next old left c.requires.node ahead in
    passed old record {
      seen = b.new.book;
      next =
          b.result;
    } left store it (b.ensures.store it.before it.after store it.store it.link it.whole named) b.ensures.later
    (b.ensures.before it.before it.after it.store it.link it.whole)

pub returns-clause-placed : goal.returns-clause-placed
returns-clause-placed c store left named ahead =
    let old = c.args.self.now in
    let b = c.node_before-self in
    let it = is-next old left c.requires.node ahead in
    let same : it.store ≡ store = b.ensures.store it.before it.after store it.store it.link it.whole named in
    let P : List Event → Type 0 = λ events. In (Placed old.next it.store it.link) events in
    let S : Store → Type 0 = λ z. IsPlaced b.new.book.log old.next z in
    let here : In (Placed old.next it.store it.link) old.seen.log = subst P (sym it.whole)
    (in-here (Placed old.next it.store it.link) it.before it.after) in
    let there = subst P b.ensures.later.1 (in-left (Placed old.next it.store it.link) old.seen.log b.ensures.later.0 here) in
    subst S same (it.link, there)
