use Rattle.std.proofs.Common.{Err, ap}
use Rattle.std.proofs.lemmas.Result.{err_from_is_err_and}
use Rattle.sip_locator.proofs.Faults.{begins-with, no-message, no-reply}
use Rattle.sip_locator.proofs.read.read_answer.Goals as goal

pub returns-in_err-message-clause-refused : goal.returns-in_err-message-clause-refused
returns-in_err-message-clause-refused c =
    let e = err_from_is_err_and c.from_residual.result c.from_residual.ensures.1 in
    rw (e.1, e.2) (no-message c.args.question.now c.args.octets.now c.in_err-message.field-0.0 c.in_err-message.ensures.refused
    (λ part is it begins. c.in_err-message.ensures.malformed part (ap Err is) begins.end it begins.spelled)
    (λ long. let is = c.in_err-message.ensures.too_long.1 long in cc))

pub returns-in_err-answer_of-clause-refused : goal.returns-in_err-answer_of-clause-refused
returns-in_err-answer_of-clause-refused c =
    let e = err_from_is_err_and c.from_residual-in_err-answer_of.result c.from_residual-in_err-answer_of.ensures.1 in
    rw (e.1, e.2) (no-reply c.args.question.now c.args.octets.now c.in_ok-message.message
    (begins-with c.args.octets.now c.in_ok-message.message c.in_ok-message.ensures.found
    (λ long. let is = c.in_ok-message.ensures.too_long.1 long in absurd cc))
    c.in_err-answer_of.field-0.0 (λ other is. let said = c.in_err-answer_of.ensures.refused other is in cc) c.in_err-answer_of.ensures.said)
