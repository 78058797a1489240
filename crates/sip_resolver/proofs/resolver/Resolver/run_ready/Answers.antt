use Rattle.std.proofs.Common.{ap, subst, inl, refl}
use Rattle.sip_resolver.proofs.Ending.{ends-ready}
use Rattle.sip_resolver.proofs.Idling.{held-kept}
use Rattle.sip_resolver.proofs.Inside.{ready-out}
use Rattle.sip_resolver.proofs.Turns.{went-not, went-too}
use Rattle.sip_resolver.proofs.Weighing.{ready-back}
use Rattle.sip_resolver.specs.Ends.{IsByChoice}
use Rattle.sip_resolver.specs.Requests.{RequestsView}
use Rattle.sip_resolver.specs.Sends.{SendsFirst}
use Rattle.sip_resolver.proofs.resolver.Resolver.run_ready.Goals as goal

pub tasks-init : goal.tasks-init
tasks-init g c = record {
  stays = c.requires.made_here;
  went = went-not _ _ (g.B.AnswerBook.shown c.args.seat.now) c.args.self.now c.requires.stand;
  held = inl refl;
}

pub advance-requires-clause-stand : goal.advance-requires-clause-stand
advance-requires-clause-stand g c =
    let stand = rw (← c.self.view_is) at c.tasks.invariant.went.stand in
    let seat = g.B.AnswerBook.shown c.tasks.seat in
    (ready-out _ _ seat c.self.inside.requests c.next_ready.new.self c.in-Some.task c.in-Some.ensures stand).0

pub advance-requires-clause-counted : goal.advance-requires-clause-counted
advance-requires-clause-counted g c =
    let stand = rw (← c.self.view_is) at c.tasks.invariant.went.stand in
    let seat = g.B.AnswerBook.shown c.tasks.seat in
    (ready-out _ _ seat c.self.inside.requests c.next_ready.new.self c.in-Some.task c.in-Some.ensures stand).1

pub returns-in-Some-advance-clause-ends : goal.returns-in-Some-advance-clause-ends
returns-in-Some-advance-clause-ends g c =
    ends-ready IsByChoice c.args.self.now.requests.ended c.advance.new.self.requests.ended c.self.inside.requests c.next_ready.new.self
    c.in-Some.task (rw (← c.self.view_is) at c.tasks.invariant.went.ends) c.in-Some.ensures c.advance.ensures.ends

pub returns-in-Some-advance-clause-sends : goal.returns-in-Some-advance-clause-sends
returns-in-Some-advance-clause-sends g c =
    let same = rw (← c.self.view_is) at c.tasks.invariant.went.questions in
    subst (λ it. SendsFirst c.args.asked c.in-Some-advance.id c.advance.new.self.requests.waiting it c.advance.new.self.questions) same
    c.in-Some-advance.ensures.sends

pub tasks-preserved : goal.tasks-preserved
tasks-preserved g c =
    let before = g.B.AnswerBook.shown c.args.seat.now in
    let seat = g.B.AnswerBook.shown c.tasks.seat in
    let after = g.B.AnswerBook.shown c.advance.new.seat in
    let middle = c.next_ready.new.self in
    record {
      stays = c.advance.ensures.stays;
      went = went-too _ _ before seat after c.args.self.now c.tasks.self c.advance.new.self middle.ended c.tasks.invariant.went
          (rw (← c.self.view_is)
          (λ it. c.advance.ensures.awaited (rw (ap (λ (it : RequestsView). it.waiting) c.in-Some.ensures.others) it)))
          (rw (← c.self.view_is) (ap (λ (it : RequestsView). it.ended) c.in-Some.ensures.others))
          (rw (← c.self.view_is)
          (ready-back c.self.inside.requests middle c.advance.new.self.requests c.in-Some.task c.in-Some.ensures c.advance.ensures.back))
          c.advance.ensures.goes_on c.advance.ensures.stores_nothing c.advance.ensures.stand
          (rw (← c.self.view_is) c.in_default-advance.ensures.sends) c.advance.ensures.ends;
      held = held-kept g.I.Ids.draws c.args.self.now.requests.held c.self.inside.requests.held middle.held
          c.advance.new.self.requests.held c.args.self.now.questions c.self.inside.questions
          (rw (← c.self.view_is) at c.tasks.invariant.held) (ap (λ (it : RequestsView). it.held) c.in-Some.ensures.others)
          c.advance.ensures.held (rw (← c.self.view_is) at c.tasks.invariant.went.questions);
    }

pub returns-in-Some-advance-clause-awaited : goal.returns-in-Some-advance-clause-awaited
returns-in-Some-advance-clause-awaited g c =
    let so = rw (← c.self.view_is) at c.tasks.invariant.went.awaited in
    λ it. c.advance.ensures.awaited (rw (ap (λ (it : RequestsView). it.waiting) c.in-Some.ensures.others) (so it))

pub returns-in-Some-advance-clause-held : goal.returns-in-Some-advance-clause-held
returns-in-Some-advance-clause-held g c =
    held-kept g.I.Ids.draws c.args.self.now.requests.held c.self.inside.requests.held c.next_ready.new.self.held
    c.advance.new.self.requests.held c.args.self.now.questions c.self.inside.questions
    (rw (← c.self.view_is) at c.tasks.invariant.held) (ap (λ (it : RequestsView). it.held) c.in-Some.ensures.others)
    c.advance.ensures.held (rw (← c.self.view_is) at c.tasks.invariant.went.questions)
