use Rattle.std.proofs.Common.{ℕ, [], List, None, ap, arith, is_ok, refl, subst, sym, ◌∙◌}
use Rattle.std.proofs.lemmas.List.{append-nil, nil_from_length}
use Rattle.std.specs.List.{last_or}
use Rattle.answer_log.specs.Handles.{spent_of}
use Rattle.answer_log.specs.Histories.{stores_of}
use mathlib.Core.List.{IsPrefix}
use Rattle.answer_log.specs.declared.event.Event.{Event}
use Rattle.answer_cache.specs.Indexes.{IsIndex, Tells, TellsAll}
use Rattle.answer_cache.specs.Nodes.{store_in}
use Rattle.answer_cache.specs.declared.index.Index.{Index}
use Rattle.answer_cache.specs.declared.index.IndexEntry.{IndexEntry}
use Rattle.answer_log.proofs.Logs.{begun-groups, groups-prefix}
use Rattle.answer_cache.proofs.Costing as costs
use Rattle.answer_cache.proofs.Indexing.{ahead-one, ahead-told, front_trans, index-pushed, last-on, ok-found, shorter, tells-later}
use Rattle.answer_cache.proofs.Lookups.{last-before, last-here}
use Rattle.answer_cache.proofs.shared_cache.SharedCache.+last_ahead.Goals.{else-is_of, else-top-before, then-is_of, then-top-before}
use Rattle.answer_cache.proofs.shared_cache.SharedCache.+last_ahead.Goals as goal

pub returns-in_default-2-clause-last : goal.returns-in_default-2-clause-last
returns-in_default-2-clause-last t c left ahead =
    let met = rw c.in_default-2.is at c.in_ok-node.ensures.met in
    ap (λ stores. last_or None (stores_of c.args.asked.now.question.now stores)) (met left ahead)

pub last_ahead-requires : goal.last_ahead-requires
last_ahead-requires t c =
    let here = c.requires.ahead in
    let step = c.in_ok-node.ensures in
    let met = (rw c.in-Some-2.is at step.met) here.0 here.1 in
    let store = store_in met.1 c.in-Some-2.node.now in
    let groups = c.requires.groups in
    let on = groups-prefix c.args.cursor.now.seen.log c.step.new.cursor.seen.log step.later
    (begun-groups c.args.cursor.now.seen.log (omega arith)) ∙ groups.0 in
    let size = c.decreases in
    let less = c.in-Some.ensures in (
      omega arith,
      (
        c.requires.hash,
        (
          (step.book, ap (λ b. b.book) step.same.book ∙ c.requires.books.1),
          (
            (on, groups.1),
            (
              step.same.handle,
              (
                c.requires.index,
                (
                  front_trans c.args.index.now.seen.log c.args.cursor.now.seen.log c.step.new.cursor.seen.log c.requires.behind step.later,
                  (met.0, met.3, shorter here.0 met.0 store c.args.links c.in-Some.links met.2 here.2 (omega arith)),
                ),
              ),
            ),
          ),
        ),
      ),
    )

pub returns-clause-index : goal.returns-clause-index
returns-clause-index t c =
    let book = c.args.self.now.book in
    let groups : ℕ = c.args.self.now.groups in
    let now = c.last_ahead.new in
    let older = c.in_ok-older.ensures in
    let here = c.requires.ahead in
    let node = c.in-Some-2.node.now in
    let step = c.in_ok-node.ensures in
    let met = (rw c.in-Some-2.is at step.met) here.0 here.1 in
    let store = store_in met.1 node in
    let some = c.requires.groups in
    let first = begun-groups c.args.cursor.now.seen.log (omega arith) in
    let on = groups-prefix c.args.cursor.now.seen.log c.step.new.cursor.seen.log step.later first ∙ some.0 in
    let later = groups-prefix c.step.new.cursor.seen.log now.cursor.seen.log older.later
    (begun-groups c.step.new.cursor.seen.log (omega (arith, on))) ∙ on in
    let I : Index → Type 0 = λ it. IsIndex groups book it in
    elim c.if-top-before.branch [
      | then-top-before w ↦
          (let entry : IndexEntry = record { hash = node.tag; node = node.node } in
          let tells : TellsAll now.index.seen.log now.index.entries.items met.0 =
          ahead-told groups book c.step.new.cursor now.index now.cursor.seen.log met.0 c.law_log_keeps_its_rule-2.ensures older.later
          older.behind later on older.index met.3 (sym w.if-top-before.true ∙ c.top-2.ensures) in
          let grown : Index = record { seen = w.again.result; entries = w.push.new.self } in
          let same = ap (λ b. b.log) w.again.ensures in
          let L : List Event → Type 0 = λ log. IsPrefix now.index.seen.log log in
          let K : List Event → Type 0 = λ log. IsPrefix c.args.cursor.now.seen.log log in
          let T : List Event → Type 0 = λ log. Tells log entry store in
          let there : Tells now.cursor.seen.log entry store = tells-later c.step.new.cursor.seen.log now.cursor.seen.log entry store
          older.later
          (record { placed = met.4; hash = rw c.in-Some-2.is at step.tagged }) in
          subst I (sym w.index-is) (index-pushed groups book now.index grown c.args.cursor.now met.0 here.0 entry store (is_ok w.push.result)
          w.push.ensures.items older.index some.0 (ap (λ b. b.book) w.again.ensures ∙ older.book) (subst L (sym same) older.behind)
          (subst K (sym same) (front_trans c.args.cursor.now.seen.log c.step.new.cursor.seen.log now.cursor.seen.log step.later
          older.later))
          tells (subst T (sym same) there) met.2 here.1 (sym (rw c.in-Some-2.is at step.number))))
      | else-top-before w ↦ subst I (sym w.index-is) older.index
    ]

pub returns-clause-last : goal.returns-clause-last
returns-clause-last t c left ahead =
    let q = c.args.asked.now.question.now in
    let node = c.in-Some-2.node.now in
    let met = (rw c.in-Some-2.is at c.in_ok-node.ensures.met) left ahead in
    let store = store_in met.1 node in
    elim c.if-is_of.branch [
      | then-is_of w ↦
          rw w.last-is (
            met.1,
            ap (λ stores. last_or None (stores_of q stores)) met.2
                ∙ last-here q met.0 store (sym c.is_of.ensures ∙ w.if-is_of.true),
          )
      | else-is_of w ↦
          rw w.last-is (last-on q left met.0 _
          (ap (λ stores. last_or None (stores_of q stores)) met.2 ∙ last-before q met.0 store (sym c.is_of.ensures ∙ w.if-is_of.false))
          (c.in_ok-older.ensures.last met.0 met.3))
    ]

-- ---- where the index tells what is ahead

pub returns-then-cursor-top-clause-same : goal.returns-then-cursor-top-clause-same
returns-then-cursor-top-clause-same t c = c.last_in.ensures.same

pub returns-then-cursor-top-clause-last : goal.returns-then-cursor-top-clause-last
returns-then-cursor-top-clause-last t c =
    let a = c.args in
    let log = a.cursor.now.seen.log in
    ok-found c.last_in.result (λ found it left ahead. it left
    (ahead-told a.self.now.groups a.self.now.book a.cursor.now a.index.now log left c.law_log_keeps_its_rule.ensures
    ([], append-nil log) c.requires.behind c.requires.groups.0 c.requires.groups.0
    c.requires.index ahead (c.if-cursor-top.true ∙ c.top.ensures))) c.last_in.ensures.last

pub returns-then-cursor-top-clause-costs : goal.returns-then-cursor-top-clause-costs
returns-then-cursor-top-clause-costs t c =
    costs.with_links (spent_of c.args.handle.now) (spent_of c.last_in.new.handle) c.args.links c.last_in.ensures.costs

-- ---- where nothing is ahead

pub returns-in_default-clause-same : goal.returns-in_default-clause-same
returns-in_default-clause-same t c = costs.same-itself c.args.handle.now c.requires.handle

pub returns-in_default-clause-last : goal.returns-in_default-clause-last
returns-in_default-clause-last t c left ahead =
    let here = c.requires.ahead in
    let less = c.in_default.ensures in
    let few = here.2 in
    let one = ahead-one c.args.cursor.now left here.0 c.law_log_keeps_its_rule.ensures ahead here.1 in
    rw (one ∙ nil_from_length here.0 (omega arith)) refl

pub returns-in_default-clause-costs : goal.returns-in_default-clause-costs
returns-in_default-clause-costs t c = costs.free-of (spent_of c.args.handle.now) c.args.links

-- ---- where a step is refused, or there is none

pub returns-in_err-node-clause-same : goal.returns-in_err-node-clause-same
returns-in_err-node-clause-same t c = c.step.ensures.same

pub returns-in_err-node-clause-behind : goal.returns-in_err-node-clause-behind
returns-in_err-node-clause-behind t c =
    front_trans c.args.index.now.seen.log c.args.cursor.now.seen.log c.step.new.cursor.seen.log c.requires.behind c.step.ensures.later

pub returns-in_err-node-clause-costs : goal.returns-in_err-node-clause-costs
returns-in_err-node-clause-costs t c =
    let less = c.in-Some.ensures in
    costs.first (spent_of c.args.handle.now) (spent_of c.step.new.handle) c.in-Some.links c.args.links (omega arith) c.step.ensures.costs

pub returns-in_default-2-clause-same : goal.returns-in_default-2-clause-same
returns-in_default-2-clause-same t c = c.step.ensures.same

pub returns-in_default-2-clause-behind : goal.returns-in_default-2-clause-behind
returns-in_default-2-clause-behind t c =
    front_trans c.args.index.now.seen.log c.args.cursor.now.seen.log c.step.new.cursor.seen.log c.requires.behind c.step.ensures.later

pub returns-in_default-2-clause-costs : goal.returns-in_default-2-clause-costs
returns-in_default-2-clause-costs t c =
    let less = c.in-Some.ensures in
    costs.first (spent_of c.args.handle.now) (spent_of c.step.new.handle) c.in-Some.links c.args.links (omega arith) c.step.ensures.costs

-- ---- after the steps that follow

pub returns-in_err-older-clause-same : goal.returns-in_err-older-clause-same
returns-in_err-older-clause-same t c =
    costs.same-handle c.args.handle.now c.step.new.handle c.last_ahead.new.handle c.step.ensures.same c.last_ahead.ensures.same

pub returns-in_err-older-clause-later : goal.returns-in_err-older-clause-later
returns-in_err-older-clause-later t c =
    front_trans c.args.cursor.now.seen.log c.step.new.cursor.seen.log c.last_ahead.new.cursor.seen.log c.step.ensures.later
    c.last_ahead.ensures.later

pub returns-in_err-older-clause-costs : goal.returns-in_err-older-clause-costs
returns-in_err-older-clause-costs t c =
    let less = c.in-Some.ensures in
    costs.first_and (spent_of c.args.handle.now) (spent_of c.step.new.handle) (spent_of c.last_ahead.new.handle) c.in-Some.links
    c.args.links
    (omega arith) c.step.ensures.costs c.last_ahead.ensures.costs

pub returns-clause-same : goal.returns-clause-same
returns-clause-same t c =
    costs.same-handle c.args.handle.now c.step.new.handle c.last_ahead.new.handle c.step.ensures.same c.last_ahead.ensures.same

pub returns-clause-later : goal.returns-clause-later
returns-clause-later t c =
    front_trans c.args.cursor.now.seen.log c.step.new.cursor.seen.log c.last_ahead.new.cursor.seen.log c.step.ensures.later
    c.last_ahead.ensures.later

pub returns-clause-costs : goal.returns-clause-costs
returns-clause-costs t c =
    let less = c.in-Some.ensures in
    costs.first_and (spent_of c.args.handle.now) (spent_of c.step.new.handle) (spent_of c.last_ahead.new.handle) c.in-Some.links
    c.args.links
    (omega arith) c.step.ensures.costs c.last_ahead.ensures.costs

pub returns-clause-behind : goal.returns-clause-behind
returns-clause-behind t c =
    let K : Index → Type 0 = λ it. IsPrefix it.seen.log c.last_ahead.new.cursor.seen.log in
    elim c.if-top-before.branch [
      | then-top-before w ↦
          subst K (sym w.index-is) ([], append-nil w.again.result.log ∙ ap (λ b. b.log) w.again.ensures)
      | else-top-before w ↦ subst K (sym w.index-is) c.last_ahead.ensures.behind
    ]
