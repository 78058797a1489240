use Rattle.std.proofs.Common.{ap, subst, inl, refl, ◌∙◌, arith}
use Rattle.sip_resolver.proofs.Ending.{ends-held}
use Rattle.sip_resolver.proofs.Idling.{held-turned}
use Rattle.sip_resolver.proofs.Inside.{held-out}
use Rattle.sip_resolver.proofs.Turns.{went-not, went-too}
use Rattle.sip_resolver.proofs.Weighing.{held-back}
use Rattle.sip_resolver.specs.Ends.{IsByChoice}
use Rattle.sip_resolver.specs.Requests.{RequestsView}
use Rattle.sip_resolver.specs.Sends.{SendsFirst}
use Rattle.sip_resolver.proofs.resolver.Resolver.run_held.Goals as goal

pub tasks-init : goal.tasks-init
tasks-init g c = record {
  stays = c.requires.made_here;
  went = went-not _ _ (g.B.AnswerBook.shown c.args.seat.now) c.args.self.now c.requires.stand;
  ready = refl;
  held = inl (omega arith);
}

pub advance-requires-clause-stand : goal.advance-requires-clause-stand
advance-requires-clause-stand g c =
    let stand = rw (← c.self-in-tasks.view_is) at c.tasks.invariant.went.stand in
    let seat = g.B.AnswerBook.shown c.tasks.seat in
    (held-out _ _ seat c.self-in-tasks.inside.requests c.next_held.new.self c.in-Some.task c.in-Some.ensures stand).0

pub advance-requires-clause-counted : goal.advance-requires-clause-counted
advance-requires-clause-counted g c =
    let stand = rw (← c.self-in-tasks.view_is) at c.tasks.invariant.went.stand in
    let seat = g.B.AnswerBook.shown c.tasks.seat in
    rw c.of.ensures
    (held-out _ _ seat c.self-in-tasks.inside.requests c.next_held.new.self c.in-Some.task c.in-Some.ensures stand).1

pub returns-in-Some-advance-clause-ends : goal.returns-in-Some-advance-clause-ends
returns-in-Some-advance-clause-ends g c =
    ends-held IsByChoice c.args.self.now.requests.ended c.advance.new.self.requests.ended c.self-in-tasks.inside.requests
    c.next_held.new.self c.in-Some.task (rw (← c.self-in-tasks.view_is) at c.tasks.invariant.went.ends) c.in-Some.ensures
    c.advance.ensures.ends

pub returns-in-Some-advance-clause-sends : goal.returns-in-Some-advance-clause-sends
returns-in-Some-advance-clause-sends g c =
    let same = rw (← c.self-in-tasks.view_is) at c.tasks.invariant.went.questions in
    subst (λ it. SendsFirst c.args.asked c.in-Some-advance.id c.advance.new.self.requests.waiting it c.advance.new.self.questions) same
    c.in-Some-advance.ensures.sends

pub tasks-preserved : goal.tasks-preserved
tasks-preserved g c =
    let before = g.B.AnswerBook.shown c.args.seat.now in
    let seat = g.B.AnswerBook.shown c.tasks.seat in
    let after = g.B.AnswerBook.shown c.advance.new.seat in
    let middle = c.next_held.new.self in
    record {
      stays = c.advance.ensures.stays;
      went = went-too _ _ before seat after c.args.self.now c.tasks.self c.advance.new.self middle.ended c.tasks.invariant.went
          (rw (← c.self-in-tasks.view_is)
          (λ it. c.advance.ensures.awaited (rw (ap (λ (it : RequestsView). it.waiting) c.in-Some.ensures.others) it)))
          (rw (← c.self-in-tasks.view_is) (ap (λ (it : RequestsView). it.ended) c.in-Some.ensures.others))
          (rw (← c.self-in-tasks.view_is)
          (held-back c.self-in-tasks.inside.requests middle c.advance.new.self.requests c.in-Some.task c.in-Some.ensures
          (rw c.of.ensures at c.advance.ensures.back)))
          c.advance.ensures.goes_on c.advance.ensures.stores_nothing c.advance.ensures.stand
          (rw (← c.self-in-tasks.view_is) c.in_default-advance.ensures.sends) c.advance.ensures.ends;
      ready = c.advance.ensures.ready
          ∙ ap (λ (it : RequestsView). it.ready) c.in-Some.ensures.others
          ∙ (rw (← c.self-in-tasks.view_is) at c.tasks.invariant.ready);
      held = held-turned g.I.Ids.draws _ c.tasks._held c.self-in-tasks.inside.requests.held middle.held
          c.advance.new.self.requests.held c.in-Some.task c.self-in-tasks.inside.questions c.advance.new.self.questions
          (rw (← c.self-in-tasks.view_is) at c.tasks.invariant.held) c.in-Some.ensures.first c.advance.ensures.held
          c.in_default-advance.ensures.sends;
    }

pub returns-in-Some-advance-clause-awaited : goal.returns-in-Some-advance-clause-awaited
returns-in-Some-advance-clause-awaited g c =
    let so = rw (← c.self-in-tasks.view_is) at c.tasks.invariant.went.awaited in
    λ it. c.advance.ensures.awaited (rw (ap (λ (it : RequestsView). it.waiting) c.in-Some.ensures.others) (so it))
