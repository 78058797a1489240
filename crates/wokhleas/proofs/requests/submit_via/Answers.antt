use Rattle.std.proofs.Common.{inl, refl}
use Rattle.wokhleas.proofs.Handling.{taken-by}
use Rattle.wokhleas.proofs.Refusing.{via-refused}
use Rattle.wokhleas.proofs.requests.submit_via.Goals as goal

pub returns-clause-taken_in : goal.returns-clause-taken_in
returns-clause-taken_in c =
    taken-by c.args.number c.args.text.now _ _ _ (rw c.in-Ok-to_via.ensures.via c.in-Ok.ensures.found) c.submit.result _ _
    c.submit.ensures.taken_in c.submit.ensures.gains

pub returns-clause-refused : goal.returns-clause-refused
returns-clause-refused c =
    via-refused c.args.number c.args.text.now _ c.submit.result
    (c.in-Ok-to_via.via, rw c.in-Ok-to_via.ensures.via c.in-Ok.ensures.found) c.submit.ensures.refused

pub returns-in_default-clause-refused : goal.returns-in_default-clause-refused
returns-in_default-clause-refused c =
    inl (refl, λ there. c.in_default.ensures.seen there.0 there.1)
