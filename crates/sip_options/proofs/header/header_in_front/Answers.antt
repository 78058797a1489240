use Rattle.std.proofs.Common.{sym}
use Rattle.sip_options.proofs.HeaderLists.{line_cut, header_at}
use Rattle.sip_options.proofs.WordTexts.{none_given}
use Rattle.sip_options.proofs.header.header_in_front.Goals as goal

pub returns-in_err-rest-clause-none : goal.returns-in_err-rest-clause-none
returns-in_err-rest-clause-none c =
    none_given c.from_residual.result _
    (λ h rest begins. c.in_err-rest.ensures.none rest
    (line_cut c.args.text.now c.cut.result.0.now c.cut.result.1.now h rest c.cut.ensures.joined c.cut.ensures.many c.cut.ensures.ends
    begins).1)

pub returns-in_err-read_header-clause-none : goal.returns-in_err-read_header-clause-none
returns-in_err-read_header-clause-none c =
    none_given c.from_residual-in_err-read_header.result _
    (λ h rest begins.
    let k = line_cut c.args.text.now c.cut.result.0.now c.cut.result.1.now h rest c.cut.ensures.joined c.cut.ensures.many
    c.cut.ensures.ends begins in
    c.in_err-read_header.ensures.none h (header_at begins.line c.cut.result.0.now h (sym k.0) begins.is))
