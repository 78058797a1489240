use Rattle.sip_options.proofs.FrameTexts.{head_line, head_headers}
use Rattle.sip_options.proofs.WordTexts.{match_none, none_given}
use Rattle.sip_options.proofs.frames.head.Goals as goal

pub returns-in_err-behind_line-clause-none : goal.returns-in_err-behind_line-clause-none
returns-in_err-behind_line-clause-none c =
    none_given c.from_residual.result _
    (λ hs rest is. c.in_err-behind_line.ensures.none is.text (head_line c.args.octets.now hs rest is))

pub returns-clause-none : goal.returns-clause-none
returns-clause-none c =
    match_none c.values_of.result _ _ _ c.values_of.ensures.none
    (λ none' hs rest is. none' hs rest
    (head_headers c.args.octets.now c.in_ok-behind_line.field-0.now hs rest c.in_ok-behind_line.ensures.found is))
