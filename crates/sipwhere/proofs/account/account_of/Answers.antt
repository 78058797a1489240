use Rattle.sipwhere.specs.Accounts.{located, without}
use Rattle.sipwhere.proofs.Accounts.{without-request}
use Rattle.sipwhere.proofs.Results.{if_ok, if_ok_both}
use Rattle.sipwhere.proofs.account.account_of.Goals as goal

pub returns-in-Ok-clause-account : goal.returns-in-Ok-clause-account
returns-in-Ok-clause-account g c =
    if_ok _ _ c.account_for.result (λ it is. located c.in-Ok.request c.in-Ok.ensures.found is) c.account_for.ensures.account

pub returns-in-Err-clause-account : goal.returns-in-Err-clause-account
returns-in-Err-clause-account g c =
    if_ok_both _ _ c.account_without.result
    (λ it memory empty. without (without-request c.law_one_destination_of_a_text.ensures _ _ _ c.in-Err.ensures.ready memory) empty)
    c.account_without.ensures.memory c.account_without.ensures.empty
