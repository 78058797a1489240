use Rattle.sip_resolver.proofs.Apart.{closed-bounded, closed-one}
use Rattle.sip_resolver.specs.Questions.{QuestionsView}
use Rattle.sip_resolver.specs.declared.transmit.DnsTransport.TheVariants.{Datagram}
use Rattle.sip_resolver.proofs.questions.Questions.take.Goals as goal

pub invariant_of-self : goal.invariant_of-self
invariant_of-self c =
    let old : QuestionsView = record { datagrams = c.self.inside.datagrams; streams = c.self.inside.streams } in
    record {
      bounded = rw c.taken.ensures.left (closed-one Datagram c.args.id old c.self.invariant.bounded);
      datagrams = c.taken.ensures.index c.self.invariant.datagrams;
      streams = c.self.invariant.streams;
    }

pub invariant_of-self-2 : goal.invariant_of-self-2
invariant_of-self-2 c =
    let old : QuestionsView = record { datagrams = c.self.inside.datagrams; streams = c.self.inside.streams } in
    record {
      bounded = rw (c.taken.ensures.left, c.taken-2.ensures.left) (closed-bounded c.args.id old c.self.invariant.bounded);
      datagrams = c.taken.ensures.index c.self.invariant.datagrams;
      streams = c.taken-2.ensures.index c.self.invariant.streams;
    }
