use Rattle.std.proofs.Common.{refl, Some, None}
use Rattle.sipwhere.specs.Destinations.{IsOfVia}
use Rattle.sipwhere.proofs.Results.{if_ok}
use Rattle.sipwhere.proofs.destination.of_via.Goals as goal

pub returns-in-Some-step_of : goal.returns-in-Some-step_of
returns-in-Some-step_of c =
    let step = c.in-Some-step_of.ensures.step c.args.via c.requires in
    rw (← c.in-Some.ensures)
    (if_ok _ (IsOfVia c.args.text.now c.args.via (Some c.in-Some.over)) c.by_step.result
    (λ it same. (Some c.in-Some-step_of.step, step, same)) c.by_step.ensures)

pub returns-in-None : goal.returns-in-None
returns-in-None c =
    let step = c.in-None.ensures.step c.args.via c.requires in
    rw (← c.in-Some.ensures) (None, step, refl)
