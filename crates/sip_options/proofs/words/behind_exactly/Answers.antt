use Rattle.sip_options.proofs.WordTexts.{match_some, match_none, exactly_is, exactly_not}
use Rattle.sip_options.proofs.words.behind_exactly.Goals as goal

pub returns-clause-found : goal.returns-clause-found
returns-clause-found c =
    match_some c.strip_prefix.result _ _ _ c.strip_prefix.ensures.cases
    (λ rest is. exactly_is c.args.word.now c.args.text.now rest.now is.0 is.1)

pub returns-clause-none : goal.returns-clause-none
returns-clause-none c =
    match_none c.strip_prefix.result _ _ _ c.strip_prefix.ensures.cases (λ is. exactly_not c.args.word.now c.args.text.now is)
