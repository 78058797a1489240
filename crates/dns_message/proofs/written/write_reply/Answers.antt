use Rattle.std.proofs.Common.{◌≡◌, ◌≤◌, ◌<◌, ◌∙◌, length, arith, ap}
use Rattle.std.proofs.lemmas.Result.{IfOk-weaker}
use Rattle.dns_message.specs.Written.{plain, cut}
use Rattle.dns_message.proofs.WrittenMessages.{both_ok, spelled, cut_short, fitted-cut, fitted-whole}
use Rattle.dns_message.proofs.written.write_reply.Goals as goal

pub returns-in-Ok-clause-spells : goal.returns-in-Ok-clause-spells
returns-in-Ok-clause-spells c =
    let message = c.args.message.now in
    let written : c.as_slice.result.now ≡ plain message =
    rw (c.as_slice.ensures.value, c.in-Ok.ensures.ok, c.new-out.ensures) in
    let short : length (plain message) ≤ 512 = omega (arith, ap length written) in
    rw (fitted-whole message short)
    (IfOk-weaker c.from_slice.result _ _
    (λ octets is. spelled c.law_written_name_is_read.ensures octets.items message (is ∙ written) c.in-Ok.ensures.fits
    (omega arith)) c.from_slice.ensures.items)

pub returns-in-Err-clause-short : goal.returns-in-Err-clause-short
returns-in-Err-clause-short c =
    let message = c.args.message.now in
    both_ok c.write_cut.result _ _ _
    (λ octets e fits. omega
    (arith, ap length e, cut_short message fits c.requires.one_question)) c.write_cut.ensures.written c.write_cut.ensures.fits

pub returns-in-Err-clause-spells : goal.returns-in-Err-clause-spells
returns-in-Err-clause-spells c =
    let message = c.args.message.now in
    let long : 512 < length (plain message) =
    omega (arith, ap length c.new-out.ensures, c.in-Err.ensures.too_long) in
    rw (fitted-cut message long)
    (both_ok c.write_cut.result _ _ _
    (λ octets e fits. spelled c.law_written_name_is_read.ensures octets.items (cut message) e fits
    (omega (arith, cut_short message fits c.requires.one_question))) c.write_cut.ensures.written c.write_cut.ensures.fits)
