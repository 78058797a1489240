use Rattle.std.proofs.Common.{refl, ap, sym, ◌∙◌}
use Rattle.std.proofs.lemmas.Result.{err_from_is_err_and}
use Rattle.sip_selection.specs.Selections.{now_of}
use Rattle.siplocate_one.proofs.Resolutions.{told_to}
use Rattle.siplocate_one.proofs.one.located.Goals as goal

pub returns-in_err-talk-clause-read : goal.returns-in_err-talk-clause-read
returns-in_err-talk-clause-read g c = λ resolution to.
    let r = err_from_is_err_and c.from_residual-in_err-talk.result c.from_residual-in_err-talk.ensures.1 in
    let k = told_to c.args.families c.args.text.now c.in_ok-request.request (λ other spelled. c.in_ok-request.ensures.read other
    (rw (← c.first_line.ensures) at spelled)) resolution to in
    rw (r.1, r.2, c.in_err-talk.ensures.read k.0 k.1 k.2 k.3) refl

pub returns-clause-read : goal.returns-clause-read
returns-clause-read g c = λ resolution to.
    let k = told_to c.args.families c.args.text.now c.in_ok-request.request (λ other spelled. c.in_ok-request.ensures.read other
    (rw (← c.first_line.ensures) at spelled)) resolution to in
    ap now_of (c.in_ok-talk.ensures.read k.0 k.1 k.2 k.3) ∙ sym k.4
