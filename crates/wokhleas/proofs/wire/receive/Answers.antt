use Rattle.wokhleas.proofs.Receiving.{ignored-same, received-as}
use Rattle.wokhleas.proofs.Refusing.{ignored-by}
use Rattle.wokhleas.proofs.wire.receive.Goals as goal

pub returns-in-Ok-clause-received : goal.returns-in-Ok-clause-received
returns-in-Ok-clause-received c =
    let receives = rw c.deref_mut.ensures.value at c.in-Ok.ensures.receives in
    rw (c.in_ok-resolver.ensures.taken, c.put.ensures)
    (received-as c.args.over c.args.octets.now c.args.at.second c.in-Ok.heard c.is_reply.result _ c.receive-heard.new.self
    c.is_reply.ensures.reply receives)

pub returns-in-Ok-clause-unchanged : goal.returns-in-Ok-clause-unchanged
returns-in-Ok-clause-unchanged c =
    rw (c.in_ok-resolver.ensures.taken, c.put.ensures)
    (ignored-same c.in-Ok.heard c.is_reply.result _ c.receive-heard.new.self c.is_reply.ensures.ignored
    (rw c.deref_mut.ensures.value at c.in-Ok.ensures.ignored))

pub returns-in-Ok-clause-refused : goal.returns-in-Ok-clause-refused
returns-in-Ok-clause-refused c =
    let receives = rw c.deref_mut.ensures.value at c.in-Ok.ensures.receives in
    let leaves = rw c.deref_mut.ensures.value at c.in-Ok.ensures.ignored in
    rw c.in_ok-resolver.ensures.taken
    (ignored-by c.args.over c.args.octets.now c.args.at.second c.in-Ok.heard c.is_reply.result _ c.receive-heard.new.self
    c.is_reply.ensures.ignored c.is_reply.ensures.told receives leaves)
