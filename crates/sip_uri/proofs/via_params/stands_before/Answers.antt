use Rattle.std.proofs.Common.{◌≡◌, false, Some, sym, ◌∙◌}
use Rattle.std.specs.Str.{str_eq_ignore_ascii_case}
use Rattle.sip_uri.specs.Readers.Vias.{next_param}
use Rattle.sip_uri.proofs.ViaSteps.{named_further}
use Rattle.sip_uri.proofs.via_params.stands_before.Goals as goal

pub loop-preserved : goal.loop-preserved
loop-preserved c =
    let e : next_param c.loop.rest.now ≡ Some (c.in-Some.earlier.now, c.in-Some.behind.now) =
    rw c.in-Some.is at (sym c.next_param.ensures) in
    let other : str_eq_ignore_ascii_case c.in-Some.earlier.now c.args.name.now ≡ false = sym c.is_same.ensures ∙ c.if-is_same.false in
    named_further c.args.params.now c.args.name.now c.loop.rest.now c.in-Some.earlier.now c.in-Some.behind.now c.args.count c.loop.counter
    c.loop.invariant c.loop-test.true e other
