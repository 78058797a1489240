use Rattle.std.proofs.Common.{ap, Some, ◌∙◌, arith}
use Rattle.sipwhere.proofs.Colons.{behind-is, has-colon}
use Rattle.sipwhere.proofs.destination.behind_colon.Goals as goal

pub returns-in_err-rest : goal.returns-in_err-rest
returns-in_err-rest c = λ rest begins.
    let some = has-colon c.args.line.now rest begins in
    let none = c.in_err-rest.ensures in
    absurd (omega arith)

pub returns : goal.returns
returns c = λ rest begins. ap Some (c.in_ok-rest.ensures.1 ∙ behind-is c.args.line.now rest begins)
