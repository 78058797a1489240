use Rattle.std.proofs.Common.{ℕ, ◌++◌, [], refl, ap, sym, ◌∙◌, subst, arith, List}
use Rattle.std.specs.Arc.{arc_value}
use Rattle.answer_log.specs.declared.event.Event.{Event}
use Rattle.answer_log.specs.declared.event.Event.TheVariants.{Named}
use Rattle.answer_log.specs.declared.store.Store.{Store}
use Rattle.answer_log.specs.Logs.{In}
use Rattle.answer_log.specs.Steps.{store_by}
use Rattle.answer_log.proofs.Logs.{in-here}
use Rattle.answer_log.proofs.Handling.{handle_adds, named_sees, named_low, names_more}
use Rattle.answer_log.proofs.log.Log.claim.Goals as goal

pub claim_node-pen-requires-clause-below : goal.claim_node-pen-requires-clause-below
claim_node-pen-requires-clause-below c =
    let h = c.args.handle.now in names_more h.number h.node_count c.args.place h.book.log c.requires.place.0 c.requires.handle.names

pub returns-clause-handle : goal.returns-clause-handle
returns-clause-handle c =
    let h = c.args.handle.now in
    let t = c.claim_node-pen in
    let node : ℕ = c.node_at-node.result in
    let store : Store = store_by h.number c.args.question.now (arc_value c.args.answer.now) c.args.moment in
    handle_adds h _
    (Named node store t.result.nib.key) c.requires.handle t.ensures.adds refl refl refl
    (let p = c.requires.place.0 in omega arith) t.ensures.book.1 t.ensures.tally.0 t.ensures.tally.1 refl
    (named_low h.number c.args.place node store t.result.nib.key c.node_at-node.ensures)

pub returns-clause-seen : goal.returns-clause-seen
returns-clause-seen c =
    let h = c.args.handle.now in
    let t = c.claim_node-pen in
    let store : Store = store_by h.number c.args.question.now (arc_value c.args.answer.now) c.args.moment in
    named_sees h t.new.book.log c.node_at-node.result store t.result.nib.key c.requires.handle refl t.ensures.adds

pub returns-clause-named : goal.returns-clause-named
returns-clause-named c =
    let h = c.args.handle.now in
    let t = c.claim_node-pen in
    let a = t.ensures.adds in
    let link = c.tracked-link in
    let node : ℕ = c.node_at-node.result in
    let store : Store = store_by h.number c.args.question.now (arc_value c.args.answer.now) c.args.moment in
    let I : List Event → Type 0 = λ log. In (Named node store t.result.nib.key) log in
    let K : ℕ → Type 0 = λ k. In (Named node store k) t.new.book.log in record {
      link = λ i. record {
        tracked = (link.ensures.0 i).tracked;
        key = link.result.key;
        book =
            ((ap (λ w. w.book) link.ensures.0) ∙ (t.ensures.book.2 ∙ c.requires.book)) i;
      };
      named = subst K (sym (ap (λ w. w.key) link.ensures.0))
          (subst I (sym a.1) (in-here (Named node store t.result.nib.key) (h.book.log ++ a.0) []));
    }
