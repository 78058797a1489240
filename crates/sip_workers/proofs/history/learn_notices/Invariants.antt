use Rattle.std.proofs.Common.{take}
use Rattle.answer_cache.specs.Shared.{Belongs}
use Rattle.sip_workers.proofs.Learning.{HasLearned, told_by}
use Rattle.sip_workers.specs.Deals.{StaysSo}
use Rattle.sip_workers.proofs.history.learn_notices.Given as goal

abbrev pub invariant-notices : goal.invariant-notices
invariant-notices l = record {
  stays : Belongs l.cache l.seat;
  same : StaysSo l.fn.seat.seat l.seat.seat;
  told : HasLearned told_by l.seat.seat.seen (take l.it-index l.made);
}
