use Rattle.dns_transport.specs.CnameChains.{IsNext}
use Rattle.dns_transport.proofs.open_chain.OpenChain.step.Goals as goal

pub returns-in-Some : goal.returns-in-Some
returns-in-Some c =
    let next : IsNext c.args.self c.args.octets.now c.in-Some.reply = rw c.in-Some.is at c.in_ok-reply.ensures in
    c.take.ensures c.args.octets.now next
