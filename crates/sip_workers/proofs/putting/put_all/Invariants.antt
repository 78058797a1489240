use Rattle.std.proofs.Common.{◌≡◌, true, take}
use Rattle.crossbeam_channel.specs.Claims.{IsSeatAt, view}
use Rattle.crossbeam_channel.specs.Ends.{sends_on}
use Rattle.sip_workers.specs.Deals.{stays_with}
use Rattle.sip_workers.proofs.putting.put_all.Given as goal

abbrev pub invariant-batches : goal.invariant-batches
invariant-batches g l = record {
  queue : IsSeatAt (sends_on l.queue.sender) l.own;
  deals : (view l.own).deals ≡ true;
  stays : stays_with (view l.fn.own) (view l.own).put ≡ view l.own;
  put : (view l.own).put ≡ take l.batch-index l.batches;
}
