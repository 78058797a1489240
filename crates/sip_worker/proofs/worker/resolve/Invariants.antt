use Rattle.std.proofs.Common.{◌≡◌}
use Rattle.answer_cache.specs.Shared.{Belongs}
use Rattle.sip_resolver.specs.Works.{Works}
use Rattle.sip_worker.specs.Batches.{AreReported, Stands}
use Rattle.sip_worker.proofs.worker.resolve.Given as goal

abbrev pub invariant-rounds : goal.invariant-rounds
invariant-rounds g l = record {
  stays : Belongs l.cache l.seat;
  works : Works g.W.Wire.gives g.C.Clock.shows l.fn.seat.seat l.seat.seat;
  jobs : l.batch.jobs ≡ l.fn.batch.jobs;
  stands : Stands g.W.Wire.gives g.C.Clock.shows l.seat.seat l.batch;
  reported : AreReported (g.G.Gate.told l.gate) l.batch.jobs l.batch.begun l.batch.requests;
}
