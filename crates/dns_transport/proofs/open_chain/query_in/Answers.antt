use Rattle.std.proofs.Common.{◌≡◌, [], ◌∷◌, ap, ◌∙◌}
use Rattle.dns_message.specs.Messages.{Begins}
use Rattle.dns_message.specs.Written.{asked_of}
use Rattle.dns_message.specs.declared.message.Message.{Message}
use Rattle.dns_message.specs.declared.question.Question.{Question}
use Rattle.dns_transport.proofs.SameQueries.{one_message}
use Rattle.dns_transport.proofs.open_chain.query_in.Goals as goal

pub returns-in_default : goal.returns-in_default
returns-in_default c = λ id question asks.
    let none : (it : Message) → Begins c.args.octets.now it → ⊥ = rw c.in_default.is at c.in_ok-message.ensures.read in
    none asks.message asks.begins

pub returns-in_default-2 : goal.returns-in_default-2
returns-in_default-2 c = λ id question asks.
    let found = c.in-Some.message in
    let begins : Begins c.args.octets.now found = rw c.in-Some.is at c.in_ok-message.ensures.read in
    let none : (it : Question) → c.as_slice.result.now ≡ asked_of it ∷ [] → ⊥ = rw c.in_default-2.is at c.in_ok-question.ensures in
    let same = one_message c.law_one_message_in_front.ensures c.args.octets.now found asks.message begins asks.begins in
    none question (c.as_slice.ensures ∙ ap (λ (message : Message). message.questions) same ∙ asks.alone)
