use Rattle.std.proofs.Common.{length, take}
use Rattle.dns_message.proofs.Messages.{one_message, MessageAt-whole}
use Rattle.dns_message.proofs.laws.law_one_message_in_front.Goals as goal

pub returns : goal.returns
returns c = λ bytes end end' message message' a b.
    let within = c.law_name_rests_before_its_end.ensures.within in
    let local = c.law_name_rests_before_its_end.ensures.local in
    one_message c.law_one_name_at_an_offset.ensures bytes message message' (length (take end bytes)) (length (take end' bytes))
    (MessageAt-whole within local bytes message end a) (MessageAt-whole within local bytes message' end' b)
