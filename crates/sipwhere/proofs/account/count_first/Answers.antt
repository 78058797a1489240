use Rattle.sipwhere.specs.Accounts.{again}
use Rattle.sipwhere.proofs.Counts.{item-at}
use Rattle.sipwhere.proofs.account.count_first.Goals as goal

pub returns-in-Some : goal.returns-in-Some
returns-in-Some c =
    let at = item-at c.args.firsts.now.items c.in-Some.place (rw c.as_slice.ensures.value at c.in-Some.ensures.inside) in
    again c.in-Some.place at.0 at.1 (c.in-Some.ensures.found at.0 (rw c.as_slice.ensures.value at.1)) (c.count_at.ensures at.0 at.1)
