use Rattle.sip_options.proofs.ViaPieces.{quote_cut}
use Rattle.sip_options.proofs.WordTexts.{none_given}
use Rattle.sip_options.proofs.via.quoted_length.Goals as goal

pub returns-in_err-behind_octet-clause-none : goal.returns-in_err-behind_octet-clause-none
returns-in_err-behind_octet-clause-none c =
    none_given c.from_residual.result _
    (λ count is. c.in_err-behind_octet.ensures.none is.rest
    (quote_cut c.args.text.now c.cut.result.0.now c.cut.result.1.now count c.cut.ensures.joined c.cut.ensures.many c.cut.ensures.ends is).1)
