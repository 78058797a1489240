use Rattle.sip_worker.proofs.Standing.{works-not}
use Rattle.sip_worker.proofs.drive.receive_once.Goals as goal

pub returns-in_default-clause-works : goal.returns-in_default-clause-works
returns-in_default-clause-works g c = works-not _ _ (g.B.AnswerBook.shown c.args.seat.now)
