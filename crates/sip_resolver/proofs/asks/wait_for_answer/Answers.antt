use Rattle.std.proofs.Common.{inl, inr, refl}
use Rattle.std.proofs.lemmas.List.Elements.{All-push, Contains-push}
use Rattle.sip_resolver.proofs.Awaiting.{asked-in}
use Rattle.sip_resolver.proofs.Idling.{cannot-ask}
use Rattle.sip_resolver.proofs.Inside.{ended-too, held-too, waiting-too}
use Rattle.sip_resolver.proofs.asks.wait_for_answer.Goals as goal
use Rattle.sip_resolver.specs.Idle.{IsIn}

pub returns-in_default-clause-stand : goal.returns-in_default-clause-stand
returns-in_default-clause-stand g c = λ seat counted lacks stand. rw c.end.ensures (ended-too _ _ seat _ _ stand tt)

pub returns-in-Some-id_of-clause-stand : goal.returns-in-Some-id_of-clause-stand
returns-in-Some-id_of-clause-stand g c = λ seat counted lacks stand. rw c.wait.ensures (waiting-too _ _ seat _ _ stand counted lacks)

pub returns-in-Ok-clause-stand : goal.returns-in-Ok-clause-stand
returns-in-Ok-clause-stand g c = λ seat counted lacks stand. rw c.wait-in-Ok.ensures (waiting-too _ _ seat _ _ stand counted lacks)

pub returns-then-is_for_now-clause-stand : goal.returns-then-is_for_now-clause-stand
returns-then-is_for_now-clause-stand g c = λ seat counted lacks stand. rw c.hold.ensures (held-too _ _ seat _ _ stand counted)

pub returns-clause-stand : goal.returns-clause-stand
returns-clause-stand g c = λ seat counted lacks stand. rw c.end-2.ensures (ended-too _ _ seat _ _ stand tt)

pub returns-in-Ok-clause-sends : goal.returns-in-Ok-clause-sends
returns-in-Ok-clause-sends g c = record {
  task = c.args.task;
  question = c.in-Some.question.now;
  needs = c.in-Some.ensures;
  waits = rw c.wait-in-Ok.ensures (Contains-push _ _);
  is_asked = rw (← c.over.ensures) c.in-Ok.ensures.asked;
}

pub returns-in_default-clause-held : goal.returns-in_default-clause-held
returns-in_default-clause-held g c = inl (rw c.end.ensures refl)

pub returns-in-Some-id_of-clause-held : goal.returns-in-Some-id_of-clause-held
returns-in-Some-id_of-clause-held g c = inl (rw c.wait.ensures refl)

pub returns-in-Ok-clause-held : goal.returns-in-Ok-clause-held
returns-in-Ok-clause-held g c = inl (rw c.wait-in-Ok.ensures refl)

pub returns-then-is_for_now-clause-held : goal.returns-then-is_for_now-clause-held
returns-then-is_for_now-clause-held g c =
    let why = c.is_for_now.ensures.0 c.if-is_for_now.true in
    inr (cannot-ask g.I.Ids.draws c.args.questions.now c.in-Err.refusal c.in-Err.ensures.refused why)

pub returns-clause-held : goal.returns-clause-held
returns-clause-held g c = inl (rw c.end-2.ensures refl)

pub returns-in_default-clause-awaited : goal.returns-in_default-clause-awaited
returns-in_default-clause-awaited g c = λ it. rw c.end.ensures it

pub returns-in-Some-id_of-clause-awaited : goal.returns-in-Some-id_of-clause-awaited
returns-in-Some-id_of-clause-awaited g c = λ it.
    let questions = c.args.questions.now in
    rw c.wait.ensures
    (All-push (IsIn questions.datagrams.tickets questions.streams.tickets) c.args.requests.now.waiting
    (record { id = c.in-Some-id_of.id; task = c.args.task }) it c.in-Some-id_of.ensures.out)

pub returns-in-Ok-clause-awaited : goal.returns-in-Ok-clause-awaited
returns-in-Ok-clause-awaited g c = λ it.
    rw (c.wait-in-Ok.ensures, c.in-Ok.ensures.asked)
    (asked-in c.over.result c.in-Ok.id c.in-Some.question.now c.args.asked c.args.questions.now c.args.requests.now.waiting c.args.task it)

pub returns-then-is_for_now-clause-awaited : goal.returns-then-is_for_now-clause-awaited
returns-then-is_for_now-clause-awaited g c = λ it. rw (c.hold.ensures, c.in-Err.ensures.unchanged) it

pub returns-clause-awaited : goal.returns-clause-awaited
returns-clause-awaited g c = λ it. rw (c.end-2.ensures, c.in-Err.ensures.unchanged) it
