use Rattle.std.proofs.Common.{◌++◌}
use Rattle.sip_options.proofs.WordTexts.{none_given, white_word_behind}
use Rattle.sip_options.proofs.via.behind_white_word.Goals as goal

pub returns-in_err-rest-clause-none : goal.returns-in_err-rest-clause-none
returns-in_err-rest-clause-none c =
    none_given c.from_residual.result _
    (λ after is. c.in_err-rest.ensures.none (is.back ++ after)
    (white_word_behind c.args.word.now c.requires c.args.text.now c.cut.result.0.now c.cut.result.1.now after c.cut.ensures.joined
    c.cut.ensures.many c.cut.ensures.ends is))
