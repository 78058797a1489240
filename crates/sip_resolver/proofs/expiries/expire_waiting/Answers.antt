use Rattle.std.proofs.Common.{ap, subst}
use Rattle.sip_resolver.proofs.Circling.{circled-early}
use Rattle.sip_resolver.proofs.Expiring.{late-not, late-through, over-waiting, waited-not, waited-on}
use Rattle.sip_resolver.proofs.Inside.{waiting-out}
use Rattle.sip_resolver.proofs.Weighing.{same-not, same-through, waiting-back}
use Rattle.sip_resolver.specs.Expiries.{EndsLate, waits_in_time}
use Rattle.sip_resolver.specs.Requests.{RequestsView}
use Rattle.sip_resolver.proofs.expiries.expire_waiting.Goals as goal

pub waits-init : goal.waits-init
waits-init g c = record {
  stand = λ seat it. it;
  same = same-not c.args.requests.now;
  ends = late-not c.args.now c.args.requests.now.ended;
  waited = waited-not c.args.now c.args.requests.now c.args.questions.now;
}

pub waits-preserved : goal.waits-preserved
waits-preserved g c =
    let first = c.args.requests.now in
    let old = c.waits.requests in
    let middle = c.next_waiting.new.self in
    let new = c.turn_waiting.new.requests in
    let turn = c.turn_waiting.ensures in
    let out = c.in-Some.ensures in
    let less = rw c.waiting_len-wait-end.ensures at c.waits-test.true in
    record {
      stand = λ seat it.
          let both = waiting-out _ _ seat old middle c.in-Some.waiting out (c.waits.invariant.stand seat it) in
          turn.stand seat both.1.0 both.1.1 both.0;
      same = same-through first old new c.waits.invariant.same (waiting-back old middle new c.in-Some.waiting out turn.back);
      ends = late-through c.args.now first.ended old.ended new.ended c.waits.invariant.ends
          (subst (λ l. EndsLate c.args.now l new.ended) (ap (λ (v : RequestsView). v.ended) out.others) turn.ends);
      waited = waited-on c.args.now first old middle new c.args.questions.now c.waits.questions c.turn_waiting.new.questions
          c.in-Some.waiting c.waits._wait c.waits.invariant.waited out less turn.others turn.questions;
    }

pub returns-in-None-clause-stand : goal.returns-in-None-clause-stand
returns-in-None-clause-stand g c = rw c.in-None.ensures.1 c.waits.invariant.stand

pub returns-in-None-clause-others : goal.returns-in-None-clause-others
returns-in-None-clause-others g c =
    let less = rw c.waiting_len-wait-end.ensures at c.waits-test.true in
    absurd
    (circled-early (waits_in_time c.args.now) c.args.requests.now.waiting c.waits.requests.waiting c.waits._wait
    c.waits.invariant.waited.circled c.in-None.ensures.0 less)

pub returns-clause-others : goal.returns-clause-others
returns-clause-others g c =
    let all = rw c.waiting_len-wait-end.ensures at c.waits-test.false in
    over-waiting c.args.now c.args.requests.now c.waits.requests c.waits._wait c.waits.invariant.waited.circled
    c.waits.invariant.waited.others all
