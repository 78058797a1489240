use Rattle.std.proofs.Common.{◌≡◌, length, arith}
use Rattle.std.proofs.lemmas.Bool.Decides.{nat_tests}
use Rattle.sip_options.proofs.HeaderLists.{nameless, value_cut}
use Rattle.sip_options.proofs.WordTexts.{none_given}
use Rattle.sip_options.proofs.header.read_header.Goals as goal

pub returns-then-is_empty-clause-none : goal.returns-then-is_empty-clause-none
returns-then-is_empty-clause-none c = λ h is.
    let short : length c.cut.result.0.now ≡ 0 = grind (arith, nat_tests, c.is_empty.ensures, c.if-is_empty.true) in
    nameless c.args.line.now c.cut.result.0.now c.cut.result.1.now h c.cut.ensures.joined c.cut.ensures.many c.cut.ensures.ends short is

pub returns-in_err-value-clause-none : goal.returns-in_err-value-clause-none
returns-in_err-value-clause-none c =
    none_given c.from_residual.result _
    (λ h is. c.in_err-value.ensures.none h.value
    (value_cut c.args.line.now c.cut.result.0.now c.cut.result.1.now c.cut-2.result.0.now c.cut-2.result.1.now h c.cut.ensures.joined
    c.cut.ensures.many c.cut.ensures.ends c.cut-2.ensures.joined c.cut-2.ensures.many c.cut-2.ensures.ends is))
