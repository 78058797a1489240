use Rattle.std.proofs.Common.{◌≡◌}
use Rattle.answer_cache.specs.Seats.{SeatView}
use Rattle.sip_worker.specs.Batches.{AreReported, Stands}
use Rattle.sip_worker.proofs.open_batch.OpenBatch.begin_all.Given as goal

abbrev pub invariant-jobs : goal.invariant-jobs
invariant-jobs g l = record {
  jobs : l.self.jobs ≡ l.fn.self.jobs;
  stands : (seat : SeatView) → Stands g.W.Wire.gives g.C.Clock.shows seat l.fn.self
      → Stands g.W.Wire.gives g.C.Clock.shows seat l.self;
  reported : AreReported (g.G.Gate.told l.gate) l.fn.self.jobs l.fn.self.begun l.fn.self.requests
      → AreReported (g.G.Gate.told l.gate) l.self.jobs l.self.begun l.self.requests;
}
