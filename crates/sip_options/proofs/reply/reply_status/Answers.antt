use Rattle.std.proofs.Common.{Some, ap, arith}
use Rattle.std.proofs.lemmas.Bool.Decides.{nat_tests}
use Rattle.sip_options.proofs.ReplyTexts.{reply_made, reply_fits}
use Rattle.sip_options.proofs.reply.reply_status.Goals as goal

pub returns-in_err-status-clause-read : goal.returns-in_err-status-clause-read
returns-in_err-status-clause-read c = λ status is. absurd (c.in_err-status.ensures.none status is.text is.line)

pub returns-then-not-via_fits-clause-read : goal.returns-then-not-via_fits-clause-read
returns-then-not-via_fits-clause-read c = λ status is.
    let k = reply_fits c.args.branch c.args.call_id c.args.message.now c.in_ok-status.text.now c.in_ok-status.status status
    c.in_ok-status.ensures.found is in
    let yes = c.via_fits.ensures.1 k.1.via in
    absurd (grind (arith, nat_tests, yes, c.if-not-via_fits.true))

pub returns-then-not-call_id_fits-clause-read : goal.returns-then-not-call_id_fits-clause-read
returns-then-not-call_id_fits-clause-read c = λ status is.
    let k = reply_fits c.args.branch c.args.call_id c.args.message.now c.in_ok-status.text.now c.in_ok-status.status status
    c.in_ok-status.ensures.found is in
    let yes = c.call_id_fits.ensures.1 k.1.id in
    absurd (grind (arith, nat_tests, yes, c.if-not-call_id_fits.true))

pub returns-then-not-cseq_fits-clause-read : goal.returns-then-not-cseq_fits-clause-read
returns-then-not-cseq_fits-clause-read c = λ status is.
    let k = reply_fits c.args.branch c.args.call_id c.args.message.now c.in_ok-status.text.now c.in_ok-status.status status
    c.in_ok-status.ensures.found is in
    let yes = c.cseq_fits.ensures.1 k.1.cseq in
    absurd (grind (arith, nat_tests, yes, c.if-not-cseq_fits.true))

pub returns-then-not-body_fits-clause-read : goal.returns-then-not-body_fits-clause-read
returns-then-not-body_fits-clause-read c = λ status is.
    let k = reply_fits c.args.branch c.args.call_id c.args.message.now c.in_ok-status.text.now c.in_ok-status.status status
    c.in_ok-status.ensures.found is in
    let yes = c.body_fits.ensures.1 k.1.body in
    absurd (grind (arith, nat_tests, yes, c.if-not-body_fits.true))

pub returns-clause-found : goal.returns-clause-found
returns-clause-found c =
    reply_made c.args.branch c.args.call_id c.args.message.now c.in_ok-status.text.now c.in_ok-status.status c.in_ok-status.ensures.found
    c.if-message-gt-MESSAGE_LIMIT.false (c.via_fits.ensures.0 (grind (arith, nat_tests, c.if-not-via_fits.false)))
    (c.call_id_fits.ensures.0 (grind (arith, nat_tests, c.if-not-call_id_fits.false)))
    (c.cseq_fits.ensures.0 (grind (arith, nat_tests, c.if-not-cseq_fits.false)))
    (c.body_fits.ensures.0 (grind (arith, nat_tests, c.if-not-body_fits.false)))

pub returns-clause-read : goal.returns-clause-read
returns-clause-read c = λ status is.
    let k = reply_fits c.args.branch c.args.call_id c.args.message.now c.in_ok-status.text.now c.in_ok-status.status status
    c.in_ok-status.ensures.found is in
    ap Some k.0
