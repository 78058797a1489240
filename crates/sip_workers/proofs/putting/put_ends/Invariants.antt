use Rattle.std.proofs.Common.{◌≡◌, ◌++◌, true, replicate}
use Rattle.crossbeam_channel.specs.Claims.{IsSeatAt, view}
use Rattle.crossbeam_channel.specs.Ends.{sends_on}
use Rattle.sip_workers.specs.Deals.{no_more, stays_with}
use Rattle.sip_workers.proofs.putting.put_ends.Given as goal

abbrev pub invariant-ends : goal.invariant-ends
invariant-ends g l = record {
  queue : IsSeatAt (sends_on l.queue.sender) l.own;
  deals : (view l.own).deals ≡ true;
  stays : stays_with (view l.fn.own) (view l.own).put ≡ view l.own;
  put : (view l.own).put ≡ (view l.fn.own).put ++ replicate l._end no_more;
}
