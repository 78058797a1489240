use Rattle.std.proofs.Common.{◌+◌, ◌-◌, ◌*◌, ℕ, arith, sym, ◌∙◌, subst, []}
use Rattle.std.proofs.lemmas.List.{append-nil}
use Rattle.std.proofs.lemmas.Result.{err_from_is_err_and}
use Rattle.answer_log.specs.Groups.{group_limit}
use Rattle.answer_log.specs.Handles.{EndsWith, SeesMore, spent_of}
use Rattle.answer_log.specs.Logs.{history}
use Rattle.answer_cache.specs.Nodes.{IsReady, store_in}
use Rattle.answer_cache.proofs.Costing as costs
use Rattle.answer_cache.proofs.Gathering.{holds-on}
use Rattle.answer_cache.proofs.Placing.{ends-on, longer, ready-on, sees-trans}
use Rattle.answer_cache.proofs.shared_cache.SharedCache.compete.Goals as goal

pub tries-init : goal.tries-init
tries-init g c =
    let t = c.attempt.new in
    let it = c.attempt.ensures in
    let R : ℕ → Type 0 = λ n. IsReady c.args.self.now.groups c.args.self.now.book t.handle.book.log n c.args.node.now t.pen.nib in record {
      least = omega arith;
      handle = it.holds.handle;
      number = (it.holds.number, it.holds.seats, it.holds.groups);
      book = (it.holds.same, c.if-attempt.ensures.again.0);
      names = it.holds.names;
      ready = subst R (sym it.holds.number) c.if-attempt.ensures.again.1;
      seen = c.if-attempt.ensures.placed;
      count = λ seen later last. let less = c.if-attempt.ensures.lost seen later last in omega arith;
      costs = costs.tried _ _ it.spent;
      tried = costs.more _ _ it.spent;
    }

pub returns-in_err-old-clause-competed : goal.returns-in_err-old-clause-competed
returns-in_err-old-clause-competed g c =
    let h = c.args.handle.now in
    let i = c.tries.invariant in
    let S : ℕ → Type 0 = λ n. SeesMore n c.tries.handle.book.log c.room.new.handle.book.log in
    let e = err_from_is_err_and c.from_residual.result c.from_residual.ensures.1 in
    rw e.1 (sees-trans h.number h.book.log c.tries.handle.book.log c.room.new.handle.book.log i.seen
    (subst S i.number.0 c.in_err-old.ensures.seen))

pub attempt-requires-in-tries-clause-ready : goal.attempt-requires-in-tries-clause-ready
attempt-requires-in-tries-clause-ready g c =
    let i = c.tries.invariant in
    let k = c.room.new.handle in
    let R : ℕ → Type 0 = λ n. IsReady c.args.self.now.groups c.args.self.now.book k.book.log n c.args.node.now c.tries.pen.nib in
    subst R (sym c.in_ok-old.ensures.holds.number)
    (ready-on c.args.self.now.groups c.args.self.now.book c.tries.handle.book.log k.book.log c.tries.handle.number c.args.node.now
    c.tries.pen.nib c.in_ok-old.ensures.seen i.ready)

pub attempt-requires-in-tries-clause-room : goal.attempt-requires-in-tries-clause-room
attempt-requires-in-tries-clause-room g c =
    let log = c.room.new.handle.book.log in record {
      seen = log;
      later = ([], append-nil log);
      top = sym c.in_ok-old.ensures.room.0;
      room = c.in_ok-old.ensures.room.1;
    }

pub tries-preserved : goal.tries-preserved
tries-preserved g c =
    let h = c.args.handle.now in
    let i = c.tries.invariant in
    let k = c.room.new.handle in
    let t = c.attempt-in-tries.new in
    let it = c.attempt-in-tries.ensures in
    let lost = c.if-attempt-2.ensures in
    let number = c.in_ok-old.ensures.holds.number ∙ i.number.0 in
    let R : ℕ → Type 0 = λ n. IsReady c.args.self.now.groups c.args.self.now.book t.handle.book.log n c.args.node.now t.pen.nib in
    let S : ℕ → Type 0 = λ n. SeesMore n c.tries.handle.book.log k.book.log in
    let U : ℕ → Type 0 = λ n. SeesMore n k.book.log t.handle.book.log in record {
      least = let l = i.least in omega arith;
      handle = it.holds.handle;
      number = (
        it.holds.number ∙ number,
        it.holds.seats ∙ (c.in_ok-old.ensures.holds.seats ∙ i.number.1),
        it.holds.groups ∙ (c.in_ok-old.ensures.holds.groups ∙ i.number.2),
      );
      book = (it.holds.same, lost.again.0);
      names = it.holds.names ∙ (c.in_ok-old.ensures.holds.names ∙ i.names);
      ready = subst R (sym it.holds.number) lost.again.1;
      seen = sees-trans h.number h.book.log k.book.log t.handle.book.log
          (sees-trans h.number h.book.log c.tries.handle.book.log k.book.log i.seen (subst S i.number.0 c.in_ok-old.ensures.seen))
          (subst U number lost.placed);
      count = λ seen later last.
          let so = i.count seen later last in
          let less = lost.lost k.book.log ([], append-nil k.book.log) (sym c.in_ok-old.ensures.room.0) in
          let on = longer (history c.tries.handle.book.log) (history k.book.log) 1 (history t.handle.book.log)
          c.in_ok-old.ensures.seen.stores
          (let l = less in omega arith) in
          omega arith;
      costs =
          let n = c.tries.number in
          let l = i.least in
          costs.within _ _ ((n - 2) * group_limit + group_limit + 0) ((n + 1 - 2) * group_limit) ((n - 1) + 0 + 1) (n + 1 - 1)
          (omega arith) (omega arith)
          (costs.both _ (spent_of c.room.new.handle) _ ((n - 2) * group_limit + group_limit) 0 ((n - 1) + 0) 1
          (costs.both _ (spent_of c.tries.handle) _ ((n - 2) * group_limit) group_limit (n - 1) 0 i.costs c.in_ok-old.ensures.costs)
          (costs.tried _ _ it.spent));
      tried = let a = i.tried in let b = c.in_ok-old.ensures.costs.before in let m = costs.more _ _ it.spent in omega arith;
    }

pub returns-then-attempt-clause-costs : goal.returns-then-attempt-clause-costs
returns-then-attempt-clause-costs g c = costs.first-try (spent_of c.args.handle.now) (spent_of c.attempt.new.handle) c.attempt.ensures.spent

pub returns-in_err-old-clause-holds : goal.returns-in_err-old-clause-holds
returns-in_err-old-clause-holds g c =
    let i = c.tries.invariant in
    holds-on c.args.self.now.book c.args.handle.now c.tries.handle c.room.new.handle
    (record { handle = i.handle; number = i.number.0; seats = i.number.1; groups = i.number.2; same = i.book.0; names = i.names })
    c.room.ensures.holds

pub returns-in_err-old-clause-costs : goal.returns-in_err-old-clause-costs
returns-in_err-old-clause-costs g c =
    let i = c.tries.invariant in
    costs.some-tries (spent_of c.args.handle.now) (spent_of c.tries.handle) c.tries.number i.least (omega arith) i.costs
    (spent_of c.room.new.handle) (omega arith) c.room.ensures.costs

pub returns-then-attempt-2-clause-holds : goal.returns-then-attempt-2-clause-holds
returns-then-attempt-2-clause-holds g c =
    let i = c.tries.invariant in
    let book = c.args.self.now.book in
    let h = c.args.handle.now in
    holds-on book h c.room.new.handle c.attempt-in-tries.new.handle
    (holds-on book h c.tries.handle c.room.new.handle
    (record { handle = i.handle; number = i.number.0; seats = i.number.1; groups = i.number.2; same = i.book.0; names = i.names })
    c.room.ensures.holds)
    c.attempt-in-tries.ensures.holds

pub returns-then-attempt-2-clause-costs : goal.returns-then-attempt-2-clause-costs
returns-then-attempt-2-clause-costs g c =
    let i = c.tries.invariant in
    costs.last-try (spent_of c.args.handle.now) (spent_of c.tries.handle) c.tries.number i.least (omega arith) i.costs
    (spent_of c.room.new.handle) (spent_of c.attempt-in-tries.new.handle) (omega arith) c.room.ensures.costs
    c.attempt-in-tries.ensures.spent

pub returns-then-attempt-2-clause-competed : goal.returns-then-attempt-2-clause-competed
returns-then-attempt-2-clause-competed g c =
    let h = c.args.handle.now in
    let i = c.tries.invariant in
    let k = c.room.new.handle in
    let t = c.attempt-in-tries.new.handle in
    let S : ℕ → Type 0 = λ n. SeesMore n c.tries.handle.book.log k.book.log in
    let E : ℕ → Type 0 = λ n. EndsWith (store_in n c.args.node.now) (history k.book.log) (history t.book.log) in
    ends-on (store_in h.number c.args.node.now) h.book.log k.book.log t.book.log
    (sees-trans h.number h.book.log c.tries.handle.book.log k.book.log i.seen (subst S i.number.0 c.room.ensures.seen))
    (subst E (c.room.ensures.holds.number ∙ i.number.0) c.if-attempt-2.ensures.placed)

pub returns-clause-holds : goal.returns-clause-holds
returns-clause-holds g c =
    let i = c.tries.invariant in
    record { handle = i.handle; number = i.number.0; seats = i.number.1; groups = i.number.2; same = i.book.0; names = i.names }
