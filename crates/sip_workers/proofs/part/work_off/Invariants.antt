use Rattle.std.proofs.Common.{◌≡◌, false, IfOk}
use Rattle.answer_cache.specs.Shared.{Belongs}
use Rattle.crossbeam_channel.specs.Claims.{IsSeatAt, view}
use Rattle.crossbeam_channel.specs.Ends.{sends_on}
use Rattle.sip_workers.specs.Deals.{AreTaken, StoresReplies}
use Rattle.sip_workers.proofs.part.work_off.Given as goal

abbrev pub invariant-batches : goal.invariant-batches
invariant-batches g l = record {
  queue : IsSeatAt (sends_on l.plan.queue.now.sender) l.right;
  one : (view l.right).parts ≡ 1;
  made_here : Belongs l.plan.cache.now l.worker;
  stored : StoresReplies g.W.Wire.gives g.C.Clock.shows l.fn.worker.seat l.worker.seat;
  made : IfOk l.made (λ all. AreTaken g.W.Wire.gives g.C.Clock.shows l.plan.cache.now (g.G.Gate.told l.plan.gate.now) l.plan.jobs.now
      (view l.right) all.items);
  none : l.ended ≡ false;
}
