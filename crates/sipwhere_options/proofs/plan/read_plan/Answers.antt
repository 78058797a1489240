use Rattle.std.proofs.Common.{subst, sym}
use Rattle.sipwhere_options.specs.Plans.{IsPlanFrom}
use Rattle.sipwhere_options.proofs.Words.{if_ok}
use Rattle.sipwhere_options.proofs.plan.read_plan.Goals as goal

pub returns-in-Some : goal.returns-in-Some
returns-in-Some g c =
    let options = c.args.options.now in
    let whole = c.in_ok-plan in
    if_ok _ _ c.plan_from.result
    (λ plan from. subst (λ local. IsPlanFrom local options plan) (sym c.in-Some.is) (whole.plan, whole.ensures, from))
    c.plan_from.ensures.kept
