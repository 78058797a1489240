use Rattle.std.proofs.Common.{◌≡◌, ◌+◌, ◌≤◌, true, length}
use Rattle.std.specs.List.{All, sum_by}
use Rattle.crossbeam_channel.specs.Claims.{IsSeatAt, view}
use Rattle.crossbeam_channel.specs.Ends.{sends_on}
use Rattle.sip_workers.proofs.Storing.{HaveJoined}
use Rattle.sip_workers.specs.Deals.{AreTaken, IsPromise, end_of}
use Rattle.sip_workers.proofs.threads.join_all.Given as goal

abbrev pub invariant-threads : goal.invariant-threads
invariant-threads g l = record {
  queue : IsSeatAt (sends_on l.plan.queue.now.sender) l.own;
  deals : (view l.own).deals ≡ (view l.fn.own).deals;
  put : (view l.own).put ≡ (view l.fn.own).put;
  promised : All (λ thread. IsPromise l.plan.queue.now thread.promise.queue.now l.plan.jobs.now thread.promise.jobs.now
      l.plan.cache.now thread.promise.cache.now l.plan.gate.now thread.promise.gate.now) l.thread-iterator.rest.items;
  made : AreTaken g.W.Wire.gives g.C.Clock.shows l.plan.cache.now (g.G.Gate.told l.plan.gate.now) l.plan.jobs.now
      (view l.own) l.home.reports.items;
  seats : HaveJoined g.W.Wire.gives g.C.Clock.shows l.plan.cache.now (λ thread. thread.promise.first.value)
      l.fn.threads.items l.thread-iterator.rest.items l.home.seats.items;
  parts : (view l.own).parts + length l.thread-iterator.rest.items ≡ (view l.fn.own).parts + length l.fn.threads.items;
  took : l.ended ≡ true
      → length l.fn.threads.items ≤ sum_by end_of (view l.own).taken + length l.thread-iterator.rest.items;
}
