use Rattle.std.proofs.Common.{sym, ap, ◌∙◌, Some}
use Rattle.std.proofs.lemmas.Result.{err_from_is_err_and}
use Rattle.dns_zone.specs.Lines.{is_comment}
use Rattle.dns_zone.specs.Views.{texts}
use Rattle.dns_zone.proofs.Said.{line_said, some_octets}
use Rattle.dns_zone.proofs.line.line_record.Goals as goal

pub returns-in_err-record_of-clause-read : goal.returns-in_err-record_of-clause-read
returns-in_err-record_of-clause-read c = λ said is.
    let k = line_said c.args.line.now (texts c.as_slice.result.now) (sym (c.if-is_comment.ensures ∙ ap is_comment c.as_bytes.ensures.value))
    (some_octets c.args.line.now c.if-is_empty.ensures)
    (sym c.in-Some.ensures ∙ ap texts (sym c.as_slice.ensures.value)) said is in
    let r = err_from_is_err_and c.from_residual.result c.from_residual.ensures.1 in
    rw (r.1, r.2) (c.in_err-record_of.ensures.read k.0 k.2)

pub returns-clause-read : goal.returns-clause-read
returns-clause-read c = λ said is.
    let k = line_said c.args.line.now (texts c.as_slice.result.now) (sym (c.if-is_comment.ensures ∙ ap is_comment c.as_bytes.ensures.value))
    (some_octets c.args.line.now c.if-is_empty.ensures)
    (sym c.in-Some.ensures ∙ ap texts (sym c.as_slice.ensures.value)) said is in
    ap Some (c.in_ok-record_of.ensures.read k.0 k.2) ∙ sym k.1
