use Rattle.std.proofs.Common.{ap, arith, refl}
use Rattle.sip_resolver.proofs.Apart.{fewer-due, fewer-not, fewer-through}
use Rattle.sip_resolver.proofs.Awaiting.{given-up-in, resent-in}
use Rattle.sip_resolver.proofs.Ending.{ends-as, ends-not, ends-through, silence-in-time}
use Rattle.sip_resolver.proofs.Idling.{given-up-few, given-up-limit, none-left, resent-limit}
use Rattle.sip_resolver.proofs.Deadlines.{wait-longer}
use Rattle.sip_resolver.proofs.Indexing.{index-given-up, index-resent}
use Rattle.sip_resolver.proofs.Sending.{given-up-by, gives-up-not, gives-up-too, unanswered}
use Rattle.sip_resolver.proofs.Settling.{more-not, more-through, settles-ends, settles-more}
use Rattle.sip_resolver.proofs.Weighing.{same-not, same-through}
use Rattle.sip_resolver.specs.Idle.{IsInWait}
use Rattle.sip_resolver.specs.QuestionTables.{id_in}
use Rattle.sip_resolver.specs.Requests.{RequestsView}
use Rattle.sip_resolver.specs.Sends.{IsInTime}
use Rattle.sip_resolver.proofs.waits.next_resend.Goals as goal

pub dues-init : goal.dues-init
dues-init g c = record {
  fewer = fewer-not c.args.asker.now.tickets;
  index = λ pairs it. it;
  stand = λ seat it. it;
  ends = ends-not (IsInTime c.args.asker.now.schedule c.args.asker.now.tickets c.args.now) c.args.requests.now.ended;
  few = let few = c.requires.few in omega (arith, few);
  awaited = λ others it. it;
  limit = refl;
  gives_up = gives-up-not c.args.now c.args.asker.now;
  same = same-not c.args.requests.now;
  ready = more-not c.args.requests.now.ready;
}

pub dues-preserved : goal.dues-preserved
dues-preserved g c = record {
  fewer = fewer-through _ _ _ c.dues.invariant.fewer (fewer-due _ _ _ _ c.due.follows.holds-at-none);
  index = λ pairs it.
      let due = rw c.in-Some-GaveUp.field-0-is at (rw c.in-Some-GaveUp.is at c.due.follows.holds-at-none) in
      let is = given-up-by c.args.now c.args.sent _ _ c.dues.asker _ (c.is_overdue.ensures.over c.if-not-is_overdue.false) due in
      index-given-up c.law_same_questions_are_equal.ensures (id_in c.dues.ids) (id_in c.remove.new.self) _ _ _ c.dues.asker _ is
      c.remove.ensures (c.dues.invariant.fewer.pairs pairs) (c.dues.invariant.index pairs it);
  stand = λ seat it. c.settle_all.ensures.stand seat tt (c.dues.invariant.stand seat it);
  ends =
      let tickets = c.args.asker.now.tickets in
      let kind = IsInTime c.args.asker.now.schedule tickets c.args.now in
      let due = rw c.in-Some-GaveUp.field-0-is at (rw c.in-Some-GaveUp.is at c.due.follows.holds-at-none) in
      let is = given-up-by c.args.now c.args.sent _ _ c.dues.asker _ (c.is_overdue.ensures.over c.if-not-is_overdue.false) due in
      let in-vain = unanswered _ _ _ c.args.asker.now _ _ c.dues.invariant.gives_up is in
      ends-through kind c.args.requests.now.ended c.dues.requests.ended c.settle_all.new.requests.ended
      c.dues.invariant.ends
      (ends-as _ kind (silence-in-time c.args.asker.now.schedule tickets c.args.now _ in-vain) c.dues.requests.ended
      c.settle_all.new.requests.ended (settles-ends _ _ _ c.settle_all.ensures.settles));
  few =
      let due = rw c.in-Some-GaveUp.field-0-is at (rw c.in-Some-GaveUp.is at c.due.follows.holds-at-none) in
      let is = given-up-by c.args.now c.args.sent _ _ c.dues.asker _ (c.is_overdue.ensures.over c.if-not-is_overdue.false) due in
      given-up-few _ _ _ c.dues.asker _ c.dues._due is c.dues.invariant.few;
  awaited = λ others it.
      let due = rw c.in-Some-GaveUp.field-0-is at (rw c.in-Some-GaveUp.is at c.due.follows.holds-at-none) in
      let is = given-up-by c.args.now c.args.sent _ _ c.dues.asker _ (c.is_overdue.ensures.over c.if-not-is_overdue.false) due in
      rw (ap (λ (v : RequestsView). v.waiting) c.settle_all.ensures.settles.new_is)
      (given-up-in _ _ _ c.dues.asker _ others c.dues.requests.waiting is (c.dues.invariant.awaited others it));
  limit =
      let due = rw c.in-Some-GaveUp.field-0-is at (rw c.in-Some-GaveUp.is at c.due.follows.holds-at-none) in
      let is = given-up-by c.args.now c.args.sent _ _ c.dues.asker _ (c.is_overdue.ensures.over c.if-not-is_overdue.false) due in
      given-up-limit _ _ _ c.args.asker.now.limit c.dues.asker _ is c.dues.invariant.limit;
  gives_up =
      let due = rw c.in-Some-GaveUp.field-0-is at (rw c.in-Some-GaveUp.is at c.due.follows.holds-at-none) in
      let is = given-up-by c.args.now c.args.sent _ _ c.dues.asker _ (c.is_overdue.ensures.over c.if-not-is_overdue.false) due in
      gives-up-too _ _ _ c.args.asker.now _ _ c.dues.invariant.gives_up is;
  same = same-through c.args.requests.now c.dues.requests c.settle_all.new.requests c.dues.invariant.same c.settle_all.ensures.same;
  ready = more-through c.args.requests.now.ready c.dues.requests.ready c.settle_all.new.requests.ready c.dues.invariant.ready
      (settles-more _ c.dues.requests c.settle_all.new.requests c.settle_all.ensures.settles);
}

pub returns-in-None-clause-fewer : goal.returns-in-None-clause-fewer
returns-in-None-clause-fewer g c = fewer-through _ _ _ c.dues.invariant.fewer (fewer-due _ _ _ _ c.due.follows.holds-at-none)

pub returns-in-Some-Resend-clause-fewer : goal.returns-in-Some-Resend-clause-fewer
returns-in-Some-Resend-clause-fewer g c = fewer-through _ _ _ c.dues.invariant.fewer (fewer-due _ _ _ _ c.due.follows.holds-at-none)

pub returns-in-None-clause-ends : goal.returns-in-None-clause-ends
returns-in-None-clause-ends g c = c.dues.invariant.ends

pub returns-in-None-clause-sends : goal.returns-in-None-clause-sends
returns-in-None-clause-sends g c =
    let is = rw c.in-None.is at c.due.follows.holds-at-none in
    rw is.0 c.dues.invariant.gives_up

pub returns-in-Some-Resend-clause-ends : goal.returns-in-Some-Resend-clause-ends
returns-in-Some-Resend-clause-ends g c = c.dues.invariant.ends

pub returns-in-Some-Resend-clause-sends : goal.returns-in-Some-Resend-clause-sends
returns-in-Some-Resend-clause-sends g c =
    let is = rw c.in-Some-Resend.field-0-is at (rw c.in-Some-Resend.is at c.due.follows.holds-at-none) in
    record {
      middle = c.dues.asker;
      gives_up = c.dues.invariant.gives_up;
      over = c.is_overdue.ensures.over c.if-not-is_overdue.false;
      octets = _;
      resent = is;
    }

pub returns-clause-ends : goal.returns-clause-ends
returns-clause-ends g c = c.dues.invariant.ends

pub returns-in-None-clause-in_wait : goal.returns-in-None-clause-in_wait
returns-in-None-clause-in_wait g c =
    let is = rw c.in-None.is at c.due.follows.holds-at-none in
    rw is.0 (wait-longer c.args.now c.args.sent _ c.requires.later is.1)

pub returns-in-None-clause-awaited : goal.returns-in-None-clause-awaited
returns-in-None-clause-awaited g c =
    let is = rw c.in-None.is at c.due.follows.holds-at-none in
    rw is.0 c.dues.invariant.awaited

pub returns-in-Some-Resend-clause-awaited : goal.returns-in-Some-Resend-clause-awaited
returns-in-Some-Resend-clause-awaited g c = λ others it.
    let is = rw c.in-Some-Resend.field-0-is at (rw c.in-Some-Resend.is at c.due.follows.holds-at-none) in
    resent-in _ _ _ c.dues.asker _ others c.dues.requests.waiting is (c.dues.invariant.awaited others it)

pub returns-clause-awaited : goal.returns-clause-awaited
returns-clause-awaited g c = c.dues.invariant.awaited

pub returns-in-None-clause-limit : goal.returns-in-None-clause-limit
returns-in-None-clause-limit g c =
    let is = rw c.in-None.is at c.due.follows.holds-at-none in
    rw is.0 c.dues.invariant.limit

pub returns-in-Some-Resend-clause-limit : goal.returns-in-Some-Resend-clause-limit
returns-in-Some-Resend-clause-limit g c =
    let is = rw c.in-Some-Resend.field-0-is at (rw c.in-Some-Resend.is at c.due.follows.holds-at-none) in
    resent-limit _ _ _ c.args.asker.now.limit c.dues.asker _ is c.dues.invariant.limit

pub returns-clause-in_wait : goal.returns-clause-in_wait
returns-clause-in_wait g c = none-left (IsInWait c.args.now) c.dues.asker.tickets c.dues._due c.dues-test.false c.dues.invariant.few

pub returns-clause-limit : goal.returns-clause-limit
returns-clause-limit g c = c.dues.invariant.limit

pub returns-clause-sends : goal.returns-clause-sends
returns-clause-sends g c = c.dues.invariant.gives_up

pub returns-then-not-is_overdue-clause-ends : goal.returns-then-not-is_overdue-clause-ends
returns-then-not-is_overdue-clause-ends g c = c.dues.invariant.ends

pub returns-then-not-is_overdue-clause-awaited : goal.returns-then-not-is_overdue-clause-awaited
returns-then-not-is_overdue-clause-awaited g c = c.dues.invariant.awaited

pub returns-then-not-is_overdue-clause-limit : goal.returns-then-not-is_overdue-clause-limit
returns-then-not-is_overdue-clause-limit g c = c.dues.invariant.limit

pub returns-then-not-is_overdue-clause-in_wait : goal.returns-then-not-is_overdue-clause-in_wait
returns-then-not-is_overdue-clause-in_wait g c = c.is_overdue.ensures.in_wait c.if-not-is_overdue.true

pub returns-then-not-is_overdue-clause-sends : goal.returns-then-not-is_overdue-clause-sends
returns-then-not-is_overdue-clause-sends g c = c.dues.invariant.gives_up

pub returns-then-not-is_overdue-clause-fewer : goal.returns-then-not-is_overdue-clause-fewer
returns-then-not-is_overdue-clause-fewer g c = c.dues.invariant.fewer

pub returns-in-None-clause-index : goal.returns-in-None-clause-index
returns-in-None-clause-index g c =
    let is = rw c.in-None.is at c.due.follows.holds-at-none in
    rw is.0 c.dues.invariant.index

pub returns-in-Some-Resend-clause-index : goal.returns-in-Some-Resend-clause-index
returns-in-Some-Resend-clause-index g c = λ pairs it.
    let is = rw c.in-Some-Resend.field-0-is at (rw c.in-Some-Resend.is at c.due.follows.holds-at-none) in
    index-resent (id_in c.dues.ids) _ _ _ c.dues.asker _ is (c.dues.invariant.index pairs it)

pub returns-clause-index : goal.returns-clause-index
returns-clause-index g c = c.dues.invariant.index

pub returns-then-not-is_overdue-clause-index : goal.returns-then-not-is_overdue-clause-index
returns-then-not-is_overdue-clause-index g c = c.dues.invariant.index
