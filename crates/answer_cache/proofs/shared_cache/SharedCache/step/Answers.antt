use Rattle.std.proofs.Common.{ℕ, sym, subst, ◌∙◌}
use Rattle.answer_log.specs.Handles.{IsNamed, IsPlaced}
use Rattle.answer_cache.specs.Nodes.{store_in}
use Rattle.logbook.specs.Pages.{Book}
use Rattle.answer_cache.proofs.shared_cache.SharedCache.step.Goals as goal

pub returns-clause-met : goal.returns-clause-met
returns-clause-met c left ahead =
    let node = c.in-Some-node.node.now in
    let it = c.in-Some-node.ensures in
    let store = store_in it.1.seat node in
    let N : Book × ℕ → Type 0 = λ at. IsNamed at.0 node.seen.log at.1 store node.link in
    let named : IsNamed node.seen.book node.seen.log c.args.cursor.now.next store node.link =
    subst N (λ i. (sym it.1.same i, (it.0 ∙ c.in-Some.ensures.node.0) i)) it.1.named in
    let passed = c.pass.ensures.passed store left named ahead in
    let P : ℕ → Type 0 = λ number. IsPlaced c.pass.new.self.seen.log number store in
    let placed = c.pass.ensures.placed store left named ahead in
    (passed.0, it.1.seat, passed.1, passed.2, subst P (sym (it.0 ∙ c.in-Some.ensures.node.0)) placed)
