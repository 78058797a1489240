use Rattle.std.proofs.Common.{◌≡◌, ◌∙◌, ◌+◌, ◌-◌, [], ◌∷◌, length, vec_len, ap, arith, rules, length-append}
use Rattle.std.proofs.lemmas.List.Elements.{All-push, All-tail}
use Rattle.answer_cache.specs.Shared.{Belongs}
use Rattle.crossbeam_channel.specs.Claims.{view}
use Rattle.sip_workers.proofs.Joining.{stays-cut}
use Rattle.sip_workers.proofs.Storing.{one-more-first}
use Rattle.sip_workers.specs.Deals.{IsPromise}
use Rattle.sip_workers.specs.declared.queue.PassView.{PassView}
use Rattle.sip_workers.proofs.threads.start_all.Goals as goal

pub push_reserved-requires : goal.push_reserved-requires
push_reserved-requires g c =
    let l = c.seats in
    let next = ap length c.in-Some.ensures.steps.0 in
    let long : vec_len l.threads ≡ length l.threads.items = search rules in
    omega (arith, next, long, l.invariant.all, l.invariant.room)

pub seats-preserved : goal.seats-preserved
seats-preserved g c =
    let l = c.seats in
    let plan = c.args.plan.now in
    let left = c.next.new.self.rest.items in
    let wires = c.pop.new.self.items in
    let thread = c.in-Some-start.thread in
    let now = view c.cut-right.new.right in
    let next = c.in-Some.ensures.steps.0 in
    let fewer : length l.seat-iterator.rest.items ≡ length left + 1 = let it = ap length next in omega (arith, it) in
    let fewer-wires : length l.wires.items ≡ length wires + 1 =
    ap length c.in-Some-pop.ensures.items ∙ length-append wires (c.in-Some-pop.wire ∷ []) in
    let longer : length c.push_reserved.new.self.items ≡ length l.threads.items + 1 =
    ap length c.push_reserved.ensures.items ∙ length-append l.threads.items (thread ∷ []) in
    let parts : now.parts ≡ (view l.own).parts - 1 = ap (λ (v : PassView). v.parts) c.cut-right.ensures.cut.0 in
    let capacity = c.push_reserved.ensures.capacity in
    record {
      here = All-tail (Belongs plan.cache.now) c.in-Some.seat left (rw next at l.invariant.here);
      alike = omega (arith, fewer, fewer-wires, l.invariant.alike);
      queue = c.cut-right.ensures.queue.0;
      more = omega (arith, fewer, parts, l.invariant.more);
      stays = stays-cut (view c.args.own.now) (view l.own) now l.invariant.stays c.cut-right.ensures.cut.0;
      promised = rw c.push_reserved.ensures.items
          (All-push (λ thread. IsPromise plan.queue.now thread.promise.queue.now plan.jobs.now thread.promise.jobs.now
          plan.cache.now thread.promise.cache.now plan.gate.now thread.promise.gate.now)
          l.threads.items thread l.invariant.promised c.in-Some-start.ensures.promised);
      firsts = rw c.push_reserved.ensures.items
          (one-more-first (λ it. it.promise.first.value) l.threads.items thread c.in-Some.seat l.seat-iterator.rest.items left
          c.args.seats.items next c.in-Some-start.ensures.first l.invariant.firsts);
      all = omega (arith, fewer, longer, l.invariant.all);
      room = omega (arith, capacity, l.invariant.room);
      parts = omega (arith, longer, parts, l.invariant.more, l.invariant.parts);
    }
