use Rattle.sip_worker.proofs.Standing.{works-not}
use Rattle.sip_worker.proofs.worker.Worker.batch.Goals as goal

pub returns-in_err-batch-clause-works : goal.returns-in_err-batch-clause-works
returns-in_err-batch-clause-works g c = rw (← c.self.view_is) (works-not _ _ c.self.inside.seat.seat)

pub resolve-requires-clause-stands : goal.resolve-requires-clause-stands
resolve-requires-clause-stands g c = c.in_ok-batch.ensures.stands c.self.inside.seat.seat
