use Rattle.dns_answers.proofs.ChainLaws.{chain_is, is_chain, too_long_is, is_too_long}
use Rattle.dns_answers.proofs.laws.law_chain_follows_cnames.Goals as goal

pub returns-clause-chain : goal.returns-clause-chain
returns-clause-chain c =
    λ section name found.
    (chain_is c.law_same_names_are_equal.ensures section name found, is_chain c.law_same_names_are_equal.ensures section name found)

pub returns-clause-none : goal.returns-clause-none
returns-clause-none c =
    λ section name. (
      too_long_is c.law_same_names_are_equal.ensures section name,
      is_too_long c.law_same_names_are_equal.ensures section
          name,
    )
