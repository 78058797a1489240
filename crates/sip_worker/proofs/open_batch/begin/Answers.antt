use Rattle.std.proofs.Common.{inr}
use Rattle.sip_worker.proofs.Reporting.{is-inside}
use Rattle.sip_worker.specs.Batches.{at_number}
use Rattle.sip_worker.proofs.open_batch.begin.Goals as goal

pub returns-then-submit-clause-ended : goal.returns-then-submit-clause-ended
returns-then-submit-clause-ended g c =
    inr (is-inside c.args.place c.args.job.now _ _ (c.submit.ensures.inside c.if-submit.true (at_number c.args.place)))
