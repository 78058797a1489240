use Rattle.sip_resolver.proofs.Going.{counted-more}
use Rattle.sip_resolver.proofs.waits.wait_outcome_of.Goals as goal

pub returns-in-Ok-clause-fits : goal.returns-in-Ok-clause-fits
returns-in-Ok-clause-fits g c = λ seat known counted lacks.
    let counts = rw c.in-Answered.is at known in
    rw c.in-Ok.ensures.given (counted-more _ _ seat c.args.task.now c.in-Answered.question.now _ counted counts)
