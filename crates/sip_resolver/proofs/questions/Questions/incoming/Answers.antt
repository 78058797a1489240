use Rattle.std.proofs.Common.{refl}
use Rattle.sip_resolver.proofs.Apart.{heard-datagram, heard-stream}
use Rattle.sip_resolver.proofs.Idling.{heard-few, heard-schedule}
use Rattle.sip_resolver.proofs.Sending.{scheduled-before}
use Rattle.sip_resolver.proofs.questions.Questions.incoming.Goals as goal

pub invariant_of-self : goal.invariant_of-self
invariant_of-self c =
    record {
      bounded = record {
        distinct = heard-datagram (record { datagrams = c.self.inside.datagrams; streams = c.self.inside.streams }) c.heard.new.asker
            c.heard.result c.heard.ensures.left c.heard.ensures.unchanged c.self.invariant.bounded.distinct;
        few_datagrams = heard-few c.self.inside.datagrams c.heard.new.asker c.heard.result c.heard.ensures.left
            c.heard.ensures.unchanged c.self.invariant.bounded.few_datagrams;
        few_streams = c.self.invariant.bounded.few_streams;
        scheduled = scheduled-before (record { datagrams = c.heard.new.asker; streams = c.self.inside.streams })
            (record { datagrams = c.self.inside.datagrams; streams = c.self.inside.streams }) (
              heard-schedule c.self.inside.datagrams c.heard.new.asker c.heard.result c.heard.ensures.left
                  c.heard.ensures.unchanged,
              refl,
            )
            c.self.invariant.bounded.scheduled;
      };
      datagrams = c.heard.ensures.index c.self.invariant.datagrams;
      streams = c.self.invariant.streams;
    }

pub invariant_of-self-in-Stream : goal.invariant_of-self-in-Stream
invariant_of-self-in-Stream c =
    record {
      bounded = record {
        distinct = heard-stream (record { datagrams = c.self.inside.datagrams; streams = c.self.inside.streams })
            c.heard-in-Stream.new.asker c.heard-in-Stream.result c.heard-in-Stream.ensures.left
            c.heard-in-Stream.ensures.unchanged c.self.invariant.bounded.distinct;
        few_datagrams = c.self.invariant.bounded.few_datagrams;
        few_streams = heard-few c.self.inside.streams c.heard-in-Stream.new.asker c.heard-in-Stream.result
            c.heard-in-Stream.ensures.left c.heard-in-Stream.ensures.unchanged c.self.invariant.bounded.few_streams;
        scheduled = scheduled-before (record { datagrams = c.self.inside.datagrams; streams = c.heard-in-Stream.new.asker })
            (record { datagrams = c.self.inside.datagrams; streams = c.self.inside.streams }) (
              refl,
              heard-schedule c.self.inside.streams c.heard-in-Stream.new.asker c.heard-in-Stream.result
                  c.heard-in-Stream.ensures.left c.heard-in-Stream.ensures.unchanged,
            )
            c.self.invariant.bounded.scheduled;
      };
      datagrams = c.self.invariant.datagrams;
      streams = c.heard-in-Stream.ensures.index c.self.invariant.streams;
    }

pub returns-in-Datagram-clause-wanted : goal.returns-in-Datagram-clause-wanted
returns-in-Datagram-clause-wanted c = rw (c.in-Datagram.is, ← c.self.view_is) c.heard.ensures.wanted

pub returns-in-Stream-clause-wanted : goal.returns-in-Stream-clause-wanted
returns-in-Stream-clause-wanted c = rw (c.in-Stream.is, ← c.self.view_is) c.heard-in-Stream.ensures.wanted
