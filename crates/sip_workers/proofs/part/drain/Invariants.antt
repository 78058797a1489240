use Rattle.std.proofs.Common.{◌≡◌, false}
use Rattle.crossbeam_channel.specs.Claims.{IsSeatAt, view}
use Rattle.crossbeam_channel.specs.Ends.{sends_on}
use Rattle.sip_workers.proofs.part.drain.Given as goal

abbrev pub invariant-batches : goal.invariant-batches
invariant-batches g l = record {
  queue : IsSeatAt (sends_on l.plan.queue.now.sender) l.right;
  one : (view l.right).parts ≡ 1;
  none : l.ended ≡ false;
}
