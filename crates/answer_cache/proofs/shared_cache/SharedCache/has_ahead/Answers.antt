use Rattle.std.proofs.Common.{ap, arith, refl, ◌∙◌}
use Rattle.answer_log.specs.Handles.{spent_of}
use Rattle.answer_cache.specs.Nodes.{store_in}
use Rattle.answer_cache.proofs.Costing as costs
use Rattle.answer_cache.proofs.Lookups.{passed-all, passed-some, passes-on}
use Rattle.answer_cache.proofs.shared_cache.SharedCache.has_ahead.Goals as goal

pub step-requires-clause-ahead : goal.step-requires-clause-ahead
step-requires-clause-ahead c =
    let it = c.stores.invariant.passes c.requires.ahead.0 c.requires.ahead.1 in (it.left, it.ahead)

pub returns-in_default-clause-has : goal.returns-in_default-clause-has
returns-in_default-clause-has c whole ahead =
    let it = c.stores.invariant.passes whole ahead in
    let met = rw c.in_default.is at c.in_ok-_node.ensures.met in
    let all = passed-all whole c.stores.cursor c.stores._store it (met it.left it.ahead) in
    let less = c.stores-test.true in
    ((λ wrong. absurd (cc (wrong))), (λ full. absurd (omega arith)))

pub stores-preserved : goal.stores-preserved
stores-preserved c =
    let met = rw c.in-Some.is at c.in_ok-_node.ensures.met in record {
      books = (c.in_ok-_node.ensures.book, ap (λ b. b.book) c.in_ok-_node.ensures.same.book ∙ c.stores.invariant.books.1);
      same = costs.same-handle c.args.handle.now c.stores.handle c.step.new.handle c.stores.invariant.same c.in_ok-_node.ensures.same;
      passes = λ whole ahead.
          let it = c.stores.invariant.passes whole ahead in
          let here = met it.left it.ahead in
          passes-on whole c.stores.cursor c.stores._store it here.0 (store_in here.1 c.in-Some._node.now) c.step.new.cursor here.2 here.3;
      costs = costs.both _ (spent_of c.stores.handle) _ c.stores._store 1 0 0 c.stores.invariant.costs c.in_ok-_node.ensures.costs;
    }

pub returns-clause-has : goal.returns-clause-has
returns-clause-has c whole ahead =
    let some = passed-some whole c.stores.cursor c.stores._store (c.stores.invariant.passes whole ahead) in
    let past = c.stores-test.false in
    ((λ _. omega arith), (λ _. refl))
