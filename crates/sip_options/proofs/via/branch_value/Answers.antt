use Rattle.std.proofs.Common.{◌∷◌}
use Rattle.std.specs.Prelude.{codes}
use Rattle.sip_options.proofs.ViaParams.{name_starts, named_made, named_word}
use Rattle.sip_options.proofs.WordTexts.{none_given, match_none, match_some, white_word_rest}
use Rattle.sip_options.proofs.via.branch_value.Goals as goal

pub behind_white_word-requires : goal.behind_white_word-requires
behind_white_word-requires c = name_starts

pub returns-in_err-behind_white_word-clause-none : goal.returns-in_err-behind_white_word-clause-none
returns-in_err-behind_white_word-clause-none c =
    none_given c.from_residual.result _
    (λ value is. c.in_err-behind_white_word.ensures.none (61 ∷ value) (named_word c.args.text.now value is))

pub returns-clause-found : goal.returns-clause-found
returns-clause-found c =
    match_some c.behind_octet.result _ _ _ c.behind_octet.ensures.found
    (λ value e. named_made c.args.text.now c.in_ok-behind_white_word.field-0.now value.now c.in_ok-behind_white_word.ensures.found e)

pub returns-clause-none : goal.returns-clause-none
returns-clause-none c =
    match_none c.behind_octet.result _ _ _ c.behind_octet.ensures.none
    (λ none' value is. none' value
    (white_word_rest (codes "branch") name_starts c.args.text.now c.in_ok-behind_white_word.field-0.now (61 ∷ value)
    c.in_ok-behind_white_word.ensures.found (named_word c.args.text.now value is)))
