use Rattle.std.proofs.Common.{refl, arith}
use Rattle.dns_message.proofs.Owners.{first_is_asked}
use Rattle.dns_message.proofs.owner.AskedName.of.Goals as goal

pub returns-in-len1-up : goal.returns-in-len1-up
returns-in-len1-up c = λ message there.
    let within = c.law_name_rests_before_its_end.ensures.within in
    let some = c.in-len1-up.len_at_least in
    first_is_asked within message _ c.first-item.result c.args.questions.now (omega (arith, some)) c.first-item.is refl there
