use Rattle.std.proofs.Common.{◌≡◌, ◌∙◌, length, arith, length-append}
use Rattle.std.proofs.lemmas.Result.{IfOk-weaker}
use Rattle.dns_message.specs.Fits.{MessageFits}
use Rattle.dns_message.specs.Written.{plain, query_of, asked_of}
use Rattle.dns_message.proofs.WrittenMessages.{spelled, query_octets, query_short}
use Rattle.dns_message.proofs.WrittenOctets.{length-header_octets, length-count_octets, length-question_octets}
use Rattle.dns_message.proofs.written.write_query.Goals as goal

pub unreachable-requires-in_default-push_question : goal.unreachable-requires-in_default-push_question
unreachable-requires-in_default-push_question c =
    let question = rw c.type_number.ensures at c.in_default-push_question.ensures in
    let twelve : length c.push_header.new.out.items ≡ 12 =
    rw (c.in-Ok.ensures.ok, c.new-out.ensures) (simp (length-append, length-header_octets, length-count_octets)) in
    omega (arith, question.too_long, length-question_octets (asked_of c.args.question.now), question.fits.name.short)

written : (c : goal.After-from_slice) → c.as_slice.result.now ≡ plain (query_of c.args.id c.args.question.now)
written c =
    rw (c.as_slice.ensures.value, c.in-Ok-push_question.ensures.ok, c.in-Ok.ensures.ok, c.new-out.ensures, c.type_number.ensures)
    (query_octets c.args.id c.args.question.now)

pub returns-clause-written : goal.returns-clause-written
returns-clause-written c = IfOk-weaker c.from_slice.result _ _ (λ octets is. is ∙ written c) c.from_slice.ensures.items

pub returns-clause-spells : goal.returns-clause-spells
returns-clause-spells c =
    let query = query_of c.args.id c.args.question.now in
    let asked = rw c.type_number.ensures at c.in-Ok-push_question.ensures.fits in
    let fits : MessageFits query =
    record { header = c.in-Ok.ensures.fits; questions = (asked, tt); answers = tt; authority = tt; additional = tt } in
    IfOk-weaker c.from_slice.result _ _
    (λ octets is. spelled c.law_written_name_is_read.ensures octets.items query (is ∙ written c) fits
    (query_short c.args.id c.args.question.now fits)) c.from_slice.ensures.items
