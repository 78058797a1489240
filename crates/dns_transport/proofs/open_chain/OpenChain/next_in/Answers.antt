use Rattle.std.proofs.Common.{ap, ◌∙◌}
use Rattle.dns_message.specs.Messages.{Begins}
use Rattle.dns_message.specs.declared.message.Message.{Message}
use Rattle.dns_answers.specs.CutChains.{is_reply_to}
use Rattle.dns_transport.specs.CnameChains.{OpenValue}
use Rattle.dns_transport.proofs.SameQueries.{one_message}
use Rattle.dns_transport.proofs.open_chain.OpenChain.next_in.Goals as goal

pub returns-in_default : goal.returns-in_default
returns-in_default c = λ message next.
    let none : (it : Message) → Begins c.args.octets.now it → ⊥ = rw c.in_default.is at c.in_ok-reply.ensures.read in
    none message next.read

pub returns-else-is_reply_to : goal.returns-else-is_reply_to
returns-else-is_reply_to c = λ message next.
    let begins : Begins c.args.octets.now c.in-Some.reply = rw c.in-Some.is at c.in_ok-reply.ensures.read in
    let same = one_message c.law_one_message_in_front.ensures c.args.octets.now c.in-Some.reply message begins next.read in
    let follow_up = ap (λ (it : OpenValue). it.follow_up) c.self.view_is in
    let is = ap (is_reply_to c.args.self.now.follow_up) same ∙ next.is in
    absurd (cc (c.is_reply_to.ensures, follow_up, is, c.if-is_reply_to.false))
