use Rattle.std.proofs.Common.{◌≡◌, ◌∙◌, ◌+◌, length, ap, arith, rules}
use Rattle.std.proofs.lemmas.Bool.{and_parts}
use Rattle.std.proofs.lemmas.List.Elements.{All-tail}
use Rattle.sip_workers.proofs.Storing.{joined-all, joined-more}
use Rattle.sip_workers.specs.Deals.{IsPromise}
use Rattle.sip_workers.proofs.threads.join_all.Goals as goal

pub threads-preserved : goal.threads-preserved
threads-preserved g c =
    let l = c.threads in
    let plan = c.args.plan.now in
    let left = c.next.new.self.rest.items in
    let next = c.in-Some.ensures.steps.0 in
    let fewer : length l.thread-iterator.rest.items ≡ length left + 1 = let it = ap length next in omega (arith, it) in
    record {
      queue = c.join_one.ensures.queue;
      deals = c.join_one.ensures.stays.0 ∙ l.invariant.deals;
      put = c.join_one.ensures.stays.1 ∙ l.invariant.put;
      promised = All-tail (λ thread. IsPromise plan.queue.now thread.promise.queue.now plan.jobs.now thread.promise.jobs.now
          plan.cache.now thread.promise.cache.now plan.gate.now thread.promise.gate.now)
          c.in-Some.thread left (rw next at l.invariant.promised);
      made = c.in_ok-ended.ensures.made;
      seats = joined-more g.W.Wire.gives g.C.Clock.shows plan.cache.now (λ thread. thread.promise.first.value)
          c.args.threads.items l.thread-iterator.rest.items left c.in-Some.thread l.home.seats.items
          c.join_one.new.home.seats.items next l.invariant.seats c.in_ok-ended.ensures.seat;
      parts = omega (arith, fewer, l.invariant.parts, c.join_one.ensures.part);
      took = λ both.
          (let one = and_parts l.ended c.in_ok-ended.field-0 both in
          let before = l.invariant.took one.0 in
          let new = c.in_ok-ended.ensures.ended one.1 in
          omega (arith, fewer, before, new));
    }

pub returns-clause-seats : goal.returns-clause-seats
returns-clause-seats g c =
    let none : length c.threads.thread-iterator.rest.items ≡ 0 = let it = c.in-None.ensures.steps.0 in search (rules, it) in
    joined-all g.W.Wire.gives g.C.Clock.shows c.args.plan.now.cache.now (λ thread. thread.promise.first.value)
    c.args.threads.items c.threads.thread-iterator.rest.items c.threads.home.seats.items none c.threads.invariant.seats
