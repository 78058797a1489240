use Rattle.std.proofs.Common.{◌≡◌, ◌+◌, ◌++◌, ◌<◌, ◌≤◌, length, map, vec_capacity}
use Rattle.std.specs.List.{All}
use Rattle.answer_cache.specs.Shared.{Belongs}
use Rattle.crossbeam_channel.specs.Claims.{IsSeatAt, view}
use Rattle.crossbeam_channel.specs.Ends.{sends_on}
use Rattle.sip_workers.specs.Deals.{IsPromise}
use Rattle.sip_workers.specs.Rules.{pass_view}
use Rattle.sip_workers.proofs.threads.start_all.Given as goal

abbrev pub invariant-seats : goal.invariant-seats
invariant-seats g l = record {
  here : All (Belongs l.plan.cache.now) l.seat-iterator.rest.items;
  alike : length l.wires.items ≡ length l.seat-iterator.rest.items;
  queue : IsSeatAt (sends_on l.plan.queue.now.sender) l.own;
  more : length l.seat-iterator.rest.items < (view l.own).parts;
  stays : pass_view (view l.fn.own).deals (view l.own).parts (view l.fn.own).put (view l.fn.own).taken ≡ view l.own;
  promised : All (λ thread. IsPromise l.plan.queue.now thread.promise.queue.now l.plan.jobs.now thread.promise.jobs.now
      l.plan.cache.now thread.promise.cache.now l.plan.gate.now thread.promise.gate.now) l.threads.items;
  firsts : map (λ thread. thread.promise.first.value) l.threads.items ++ l.seat-iterator.rest.items ≡ l.fn.seats.items;
  all : length l.threads.items + length l.seat-iterator.rest.items ≡ length l.fn.seats.items;
  room : length l.fn.seats.items ≤ vec_capacity l.threads;
  parts : (view l.own).parts + length l.threads.items ≡ (view l.fn.own).parts;
}
