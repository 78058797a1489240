use Rattle.std.proofs.Common.{refl}
use Rattle.std.proofs.lemmas.List.Elements.{Contains-append_left, Contains-append_right}
use Rattle.sip_resolver.proofs.Apart.{distinct-fewer, fewer-not}
use Rattle.sip_resolver.proofs.Awaiting.{in-flipped}
use Rattle.sip_resolver.proofs.Ending.{ends-as, ends-through, in-time-of}
use Rattle.sip_resolver.proofs.Sending.{schedule-resent, scheduled-before, sends-both, sends-datagram}
use Rattle.sip_resolver.proofs.Settling.{more-through}
use Rattle.sip_resolver.specs.Questions.{QuestionsView, schedule_of}
use Rattle.sip_resolver.specs.Sends.{IsInTime, tickets_of}
use Rattle.sip_resolver.proofs.questions.Questions.next_resend.Goals as goal

pub invariant_of-self : goal.invariant_of-self
invariant_of-self g c =
    let old : QuestionsView = record { datagrams = c.self.inside.datagrams; streams = c.self.inside.streams } in
    let new : QuestionsView = record { datagrams = c.next_resend.new.asker; streams = c.self.inside.streams } in
    record {
      bounded = record {
        distinct = distinct-fewer old new c.next_resend.ensures.fewer (fewer-not c.self.inside.streams.tickets)
            c.self.invariant.bounded.distinct;
        few_datagrams = rw c.next_resend.ensures.limit c.self.invariant.bounded.few_datagrams;
        few_streams = c.self.invariant.bounded.few_streams;
        scheduled = scheduled-before new old
            (schedule-resent _ _ old.datagrams new.datagrams c.next_resend.result c.next_resend.ensures.sends, refl)
            c.self.invariant.bounded.scheduled;
      };
      datagrams = c.next_resend.ensures.index c.self.invariant.bounded.distinct.datagrams c.self.invariant.datagrams;
      streams = c.self.invariant.streams;
    }

pub invariant_of-self-2 : goal.invariant_of-self-2
invariant_of-self-2 g c =
    record {
      bounded = record {
        distinct = distinct-fewer (record { datagrams = c.self.inside.datagrams; streams = c.self.inside.streams })
            (record { datagrams = c.next_resend.new.asker; streams = c.next_resend-2.new.asker }) c.next_resend.ensures.fewer
            c.next_resend-2.ensures.fewer c.self.invariant.bounded.distinct;
        few_datagrams = rw c.next_resend.ensures.limit c.self.invariant.bounded.few_datagrams;
        few_streams = rw c.next_resend-2.ensures.limit c.self.invariant.bounded.few_streams;
        scheduled = scheduled-before (record { datagrams = c.next_resend.new.asker; streams = c.next_resend-2.new.asker })
            (record { datagrams = c.self.inside.datagrams; streams = c.self.inside.streams }) (
              schedule-resent _ _ c.self.inside.datagrams c.next_resend.new.asker c.next_resend.result c.next_resend.ensures.sends,
              schedule-resent _ _ c.self.inside.streams c.next_resend-2.new.asker c.next_resend-2.result c.next_resend-2.ensures.sends,
            )
            c.self.invariant.bounded.scheduled;
      };
      datagrams = c.next_resend.ensures.index c.self.invariant.bounded.distinct.datagrams c.self.invariant.datagrams;
      streams = c.next_resend-2.ensures.index c.self.invariant.bounded.distinct.streams c.self.invariant.streams;
    }

pub returns-clause-stand : goal.returns-clause-stand
returns-clause-stand g c = λ seat it. c.next_resend-2.ensures.stand seat (c.next_resend.ensures.stand seat it)

pub returns-in-Some-clause-ends : goal.returns-in-Some-clause-ends
returns-in-Some-clause-ends g c =
    let old : QuestionsView = record { datagrams = c.self.inside.datagrams; streams = c.self.inside.streams } in
    rw (← c.self.view_is)
    (ends-as _ (IsInTime (schedule_of old) (tickets_of old) c.args.now)
    (in-time-of (schedule_of old) old.datagrams.tickets (tickets_of old) c.args.now
    (Contains-append_left old.datagrams.tickets old.streams.tickets))
    _ _ c.next_resend.ensures.ends)

pub returns-in-Some-clause-sends : goal.returns-in-Some-clause-sends
returns-in-Some-clause-sends g c =
    let old : QuestionsView = record { datagrams = c.self.inside.datagrams; streams = c.self.inside.streams } in
    rw (← c.self.view_is)
    (sends-datagram _ _ c.args.asked _ old _ (rw c.later_of-sent.ensures.later at (rw c.in-Some.is at c.next_resend.ensures.sends)))

pub returns-clause-ends : goal.returns-clause-ends
returns-clause-ends g c =
    let old : QuestionsView = record { datagrams = c.self.inside.datagrams; streams = c.self.inside.streams } in
    let kind = IsInTime (schedule_of old) (tickets_of old) c.args.now in
    let streams-end = rw c.self.invariant.bounded.scheduled.0 at c.next_resend-2.ensures.ends in
    rw (← c.self.view_is)
    (ends-through kind _ _ _
    (ends-as _ kind
    (in-time-of (schedule_of old) old.datagrams.tickets (tickets_of old) c.args.now
    (Contains-append_left old.datagrams.tickets old.streams.tickets))
    _ _ c.next_resend.ensures.ends)
    (ends-as _ kind
    (in-time-of (schedule_of old) old.streams.tickets (tickets_of old) c.args.now
    (Contains-append_right old.datagrams.tickets old.streams.tickets))
    _ _ streams-end))

pub returns-clause-sends : goal.returns-clause-sends
returns-clause-sends g c =
    let old : QuestionsView = record { datagrams = c.self.inside.datagrams; streams = c.self.inside.streams } in
    rw (← c.self.view_is)
    (sends-both c.args.now c.args.asked c.next_resend-2.new.requests.waiting old c.next_resend.new.asker c.next_resend-2.new.asker
    c.next_resend-2.result (rw c.in_default.is at c.next_resend.ensures.sends)
    (rw c.later_of-sent.ensures.later at c.next_resend-2.ensures.sends))

pub returns-in-Some-clause-awaited : goal.returns-in-Some-clause-awaited
returns-in-Some-clause-awaited g c =
    rw (← c.self.view_is) (λ it. c.next_resend.ensures.awaited c.self.inside.streams.tickets it)

pub returns-clause-awaited : goal.returns-clause-awaited
returns-clause-awaited g c =
    rw (← c.self.view_is)
    (λ it.
    in-flipped _ _ _
    (c.next_resend-2.ensures.awaited c.next_resend.new.asker.tickets
    (in-flipped _ _ _ (c.next_resend.ensures.awaited c.self.inside.streams.tickets it))))

pub returns-clause-ready : goal.returns-clause-ready
returns-clause-ready g c =
    more-through c.args.requests.now.ready c.next_resend.new.requests.ready c.next_resend-2.new.requests.ready c.next_resend.ensures.ready
    c.next_resend-2.ensures.ready
