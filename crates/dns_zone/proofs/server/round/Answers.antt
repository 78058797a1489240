use Rattle.dns_zone.proofs.Rounds.{no_reply, replied}
use Rattle.dns_zone.proofs.server.round.Goals as goal

pub returns-in_default : goal.returns-in_default
returns-in_default g c = no_reply _ _ _ _ c.receive.result _ c.receive.ensures.did

pub returns-in_default-2 : goal.returns-in_default-2
returns-in_default-2 g c = no_reply _ _ _ _ c.receive.result _ c.receive.ensures.did

pub returns-in_default-answer_datagram : goal.returns-in_default-answer_datagram
returns-in_default-answer_datagram g c = no_reply _ _ _ _ c.receive.result _ c.receive.ensures.did

pub returns-in_default-answer_datagram-2 : goal.returns-in_default-answer_datagram-2
returns-in_default-answer_datagram-2 g c = no_reply _ _ _ _ c.receive.result _ c.receive.ensures.did

pub returns : goal.returns
returns g c =
    let came = rw c.in-Ok-Some.field-0-is at c.in-Ok-Some.ensures in
    let reply = rw c.in-Ok-Some-answer_datagram.field-0-is at c.in-Ok-Some-answer_datagram.ensures in
    let went = rw c.deref.ensures.value at c.send.ensures.did in
    rw c.is_ok.ensures.value (replied _ _ _ _ _ _ _ _ c.send.result came.did reply.found went)
