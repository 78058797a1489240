use Rattle.std.proofs.Common.{refl}
use Rattle.sip_resolver.proofs.Apart.{asked-datagram, asked-stream}
use Rattle.sip_resolver.proofs.Idling.{asked-few, asked-schedule, may-refuse-all}
use Rattle.sip_resolver.proofs.Sending.{scheduled-before}
use Rattle.sip_resolver.specs.Questions.{Lacks, QuestionsView}
use Rattle.sip_resolver.specs.declared.transmit.DnsTransport.TheVariants.{Datagram, Stream}
use Rattle.sip_resolver.proofs.questions.Questions.ask.Goals as goal

pub invariant_of-self : goal.invariant_of-self
invariant_of-self g c =
    let old : QuestionsView = record {
      datagrams = c.self.inside.datagrams;
      streams = c.self.inside.streams;
    } in
    let lacks : Lacks c.args.question.now old = rw (← c.self.view_is) at c.requires in
    record {
      bounded = record {
        distinct = asked-datagram c.in-Some.id c.args.question.now c.args.now old c.self.invariant.bounded.distinct lacks
            (rw (← c.self.view_is) at c.in-Some.ensures.datagrams)
            (rw (← c.self.view_is) at c.in-Some.ensures.streams) c.asked.new.asker c.asked.result c.asked.ensures.asked
            c.asked.ensures.unchanged;
        few_datagrams = asked-few c.in-Some.id c.args.question.now c.args.now old.datagrams c.asked.new.asker c.asked.result
            c.asked.ensures.asked c.asked.ensures.unchanged c.self.invariant.bounded.few_datagrams;
        few_streams = c.self.invariant.bounded.few_streams;
        scheduled = scheduled-before (record { datagrams = c.asked.new.asker; streams = old.streams }) old (
          asked-schedule c.in-Some.id c.args.question.now c.args.now old.datagrams c.asked.new.asker c.asked.result
              c.asked.ensures.asked c.asked.ensures.unchanged,
          refl,
        )
            c.self.invariant.bounded.scheduled;
      };
      datagrams = c.asked.ensures.index lacks.datagrams (rw (← c.self.view_is) at c.in-Some.ensures.datagrams) c.self.invariant.datagrams;
      streams = c.self.invariant.streams;
    }

pub invariant_of-self-in-Stream : goal.invariant_of-self-in-Stream
invariant_of-self-in-Stream g c =
    let old : QuestionsView = record {
      datagrams = c.self.inside.datagrams;
      streams = c.self.inside.streams;
    } in
    let lacks : Lacks c.args.question.now old = rw (← c.self.view_is) at c.requires in
    record {
      bounded = record {
        distinct = asked-stream c.in-Some.id c.args.question.now c.args.now old c.self.invariant.bounded.distinct lacks
            (rw (← c.self.view_is) at c.in-Some.ensures.datagrams)
            (rw (← c.self.view_is) at c.in-Some.ensures.streams) c.asked-in-Stream.new.asker c.asked-in-Stream.result
            c.asked-in-Stream.ensures.asked c.asked-in-Stream.ensures.unchanged;
        few_datagrams = c.self.invariant.bounded.few_datagrams;
        few_streams = asked-few c.in-Some.id c.args.question.now c.args.now old.streams c.asked-in-Stream.new.asker c.asked-in-Stream.result
            c.asked-in-Stream.ensures.asked c.asked-in-Stream.ensures.unchanged c.self.invariant.bounded.few_streams;
        scheduled = scheduled-before (record { datagrams = old.datagrams; streams = c.asked-in-Stream.new.asker }) old (
          refl,
          asked-schedule c.in-Some.id c.args.question.now c.args.now old.streams c.asked-in-Stream.new.asker c.asked-in-Stream.result
              c.asked-in-Stream.ensures.asked c.asked-in-Stream.ensures.unchanged,
        )
            c.self.invariant.bounded.scheduled;
      };
      datagrams = c.self.invariant.datagrams;
      streams = c.asked-in-Stream.ensures.index lacks.streams (rw (← c.self.view_is) at c.in-Some.ensures.streams) c.self.invariant.streams;
    }

pub returns-in-Datagram-clause-refused : goal.returns-in-Datagram-clause-refused
returns-in-Datagram-clause-refused g c =
    may-refuse-all g.I.Ids.draws c.args.self.now c.in-Some.id Datagram c.asked.result (rw (← c.self.view_is) c.asked.ensures.refused)
    c.in-Some.ensures.datagrams c.in-Some.ensures.streams

pub returns-in-Stream-clause-refused : goal.returns-in-Stream-clause-refused
returns-in-Stream-clause-refused g c =
    may-refuse-all g.I.Ids.draws c.args.self.now c.in-Some.id Stream c.asked-in-Stream.result
    (rw (← c.self.view_is) c.asked-in-Stream.ensures.refused) c.in-Some.ensures.datagrams c.in-Some.ensures.streams
