use Rattle.std.proofs.Common.{take}
use Rattle.answer_cache.specs.Shared.{Belongs}
use Rattle.sip_workers.proofs.Learning.{HasLearned, seen_by}
use Rattle.sip_workers.specs.Deals.{StaysSo}
use Rattle.sip_workers.proofs.history.learn_seats.Given as goal

abbrev pub invariant-seats : goal.invariant-seats
invariant-seats l = record {
  stays : Belongs l.cache l.seat;
  same : StaysSo l.fn.seat.seat l.seat.seat;
  told : HasLearned seen_by l.seat.seat.seen (take l.it-index l.others);
}
