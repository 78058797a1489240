use Rattle.wokhleas.proofs.Telling.{told-as}
use Rattle.wokhleas.proofs.outcomes.tell_next.Goals as goal

pub returns-clause-told : goal.returns-clause-told
returns-clause-told c =
    told-as c.told_outcome.result c.in_ok-told.field-0.now _ _ (c.tell_next.ensures.tells (let no = c.if-not-tell_next.false in cc))
    c.in_ok-told.ensures c.told_outcome.ensures
