use Rattle.sip_resolver.proofs.Apart.{closed-bounded}
use Rattle.sip_resolver.specs.Questions.{QuestionsView}
use Rattle.sip_resolver.proofs.questions.Questions.close.Goals as goal

pub invariant_of-self : goal.invariant_of-self
invariant_of-self c =
    let old : QuestionsView = record { datagrams = c.self.inside.datagrams; streams = c.self.inside.streams } in
    record {
      bounded = rw (c.taken-over_datagrams.ensures.left, c.taken-over_streams.ensures.left)
          (closed-bounded c.args.id old c.self.invariant.bounded);
      datagrams = c.taken-over_datagrams.ensures.index c.self.invariant.datagrams;
      streams = c.taken-over_streams.ensures.index c.self.invariant.streams;
    }
