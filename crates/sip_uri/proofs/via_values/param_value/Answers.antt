use Rattle.std.proofs.Common.{◌≡◌, Some, sym, ◌∙◌}
use Rattle.sip_uri.specs.Readers.ViaRoutes.{front_of, param_in_front}
use Rattle.sip_uri.proofs.ViaValues.{none_found, found_here, found_further, front_shorter}
use Rattle.sip_uri.proofs.via_values.param_value.Goals as goal
use Rattle.sip_uri.proofs.via_values.param_value.Goals.{In-Some}

pub returns-in_default : goal.returns-in_default
returns-in_default c = λ list are.
    none_found c.args.params.now c.args.name.now c.loop-found.rest.now c.loop-found.invariant list are (sym c.in_default.ensures)

read : (c : In-Some) → param_in_front c.loop-found.rest.now ≡ Some (front_of c.in-Some.field-0)
read c = sym c.in-Some.ensures

pub returns-then-is_same : goal.returns-then-is_same
returns-then-is_same c = λ list are.
    found_here c.args.params.now c.args.name.now c.loop-found.rest.now c.loop-found.invariant list are (front_of c.in-Some.field-0)
    (read (goal.at.returns-then-is_same c).In-Some)
    (sym c.is_same.ensures ∙ c.if-is_same.true)

pub loop-found-smaller : goal.loop-found-smaller
loop-found-smaller c =
    front_shorter c.loop-found.rest.now (front_of c.in-Some.field-0) (read (goal.at.loop-found-smaller c).In-Some)

pub loop-found-preserved : goal.loop-found-preserved
loop-found-preserved c = λ list are.
    found_further c.args.params.now c.args.name.now c.loop-found.rest.now c.loop-found.invariant list are (front_of c.in-Some.field-0)
    (read (goal.at.loop-found-preserved c).In-Some)
    (sym c.is_same.ensures ∙ c.if-is_same.false)
