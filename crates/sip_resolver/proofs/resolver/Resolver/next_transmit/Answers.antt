use Rattle.std.proofs.Common.{◌≡◌, MatchOption, subst}
use Rattle.sip_resolver.proofs.Ending.{choice-in-time, ends-as, ends-through}
use Rattle.sip_resolver.proofs.Idling.{idle-after, turn-after}
use Rattle.sip_resolver.proofs.Sending.{sends-then}
use Rattle.sip_resolver.proofs.Settling.{more-still}
use Rattle.sip_resolver.specs.Ends.{IsByChoice}
use Rattle.sip_resolver.specs.Idle.{none_went_on}
use Rattle.sip_resolver.specs.Questions.{schedule_of}
use Rattle.sip_resolver.specs.Sends.{IsInTime, SendsFirst, first, tickets_of}
use Rattle.sip_resolver.proofs.resolver.Resolver.next_transmit.Goals as goal

pub returns-in-Some-clause-stand : goal.returns-in-Some-clause-stand
returns-in-Some-clause-stand g c =
    c.next_resend.ensures.stand (g.B.AnswerBook.shown c.args.seat.now) (rw (← c.self.view_is) at c.requires.stand)

pub run_held-requires-clause-stand : goal.run_held-requires-clause-stand
run_held-requires-clause-stand g c =
    c.next_resend.ensures.stand (g.B.AnswerBook.shown c.args.seat.now) (rw (← c.self.view_is) at c.requires.stand)

pub returns-in-Some-run_held-clause-ends : goal.returns-in-Some-run_held-clause-ends
returns-in-Some-run_held-clause-ends g c =
    let schedule = schedule_of c.self.inside.questions in
    let tickets = tickets_of c.self.inside.questions in
    let kind = IsInTime schedule tickets c.args.now in
    rw (← c.self.view_is)
    (ends-through kind _ _ _ c.next_resend.ensures.ends
    (ends-as IsByChoice kind (choice-in-time schedule tickets c.args.now) _ _ c.run_held.ensures.ends))

pub returns-in-Some-clause-sends : goal.returns-in-Some-clause-sends
returns-in-Some-clause-sends g c = rw (← c.self.view_is) c.in-Some.ensures.sends

pub returns-in-Some-run_held-clause-sends : goal.returns-in-Some-run_held-clause-sends
returns-in-Some-run_held-clause-sends g c =
    rw (← c.self.view_is)
    (record { middle = c.next_resend.new.self; gives_up = c.in_default.ensures.sends; sends = first c.in-Some-run_held.ensures.sends })

pub returns-clause-ends : goal.returns-clause-ends
returns-clause-ends g c =
    let schedule = schedule_of c.self.inside.questions in
    let tickets = tickets_of c.self.inside.questions in
    let kind = IsInTime schedule tickets c.args.now in
    let by-choice = ends-as IsByChoice kind (choice-in-time schedule tickets c.args.now) in
    rw (← c.self.view_is)
    (ends-through kind _ _ _ c.next_resend.ensures.ends
    (ends-through kind _ _ _ (by-choice _ _ c.run_held.ensures.ends) (by-choice _ _ c.run_ready.ensures.ends)))

pub returns-clause-sends : goal.returns-clause-sends
returns-clause-sends g c =
    let new = c.run_ready.new.self.questions in
    rw (← c.self.view_is)
    (sends-then c.args.now c.args.asked c.run_ready.new.self.requests.waiting c.self.inside.questions c.next_resend.new.self new
    c.run_ready.result c.in_default.ensures.sends
    (subst (λ it. MatchOption c.run_ready.result (new ≡ it) (λ id. SendsFirst c.args.asked id c.run_ready.new.self.requests.waiting it new))
    c.in_default-run_held.ensures.sends
    c.run_ready.ensures.sends))

pub returns-in-Some-clause-turn : goal.returns-in-Some-clause-turn
returns-in-Some-clause-turn g c = rw (← c.self.view_is) (none_went_on c.next_resend.ensures.ready)

pub returns-in-Some-run_held-clause-turn : goal.returns-in-Some-run_held-clause-turn
returns-in-Some-run_held-clause-turn g c =
    rw (← c.self.view_is)
    (none_went_on
    (more-still c.self.inside.requests.ready c.next_resend.new.requests.ready c.run_held.new.self.requests.ready c.next_resend.ensures.ready
    c.run_held.ensures.ready))

pub returns-clause-turn : goal.returns-clause-turn
returns-clause-turn g c =
    turn-after g.I.Ids.draws c.args.asked c.args.self.now.requests c.run_ready.new.self.requests c.run_held.new.self.requests.held
    c.run_held.new.self.questions c.run_ready.new.self.questions c.run_ready.result c.in_default-run_held.ensures.held
    c.run_ready.ensures.held c.run_ready.ensures.sends

pub returns-clause-idle : goal.returns-clause-idle
returns-clause-idle g c =
    let middle = c.run_held.new.self.questions in
    let new = c.run_ready.new.self.questions in
    idle-after g.I.Ids.draws c.args.now c.run_ready.new.self.requests c.run_held.new.self.requests.held middle new c.run_ready.result
    (λ id. SendsFirst c.args.asked id c.run_ready.new.self.requests.waiting middle new)
    (rw c.in_default-run_held.ensures.sends c.in_default.ensures.datagrams)
    (rw c.in_default-run_held.ensures.sends c.in_default.ensures.streams) c.run_ready.ensures.ready c.in_default-run_held.ensures.held
    c.run_ready.ensures.held c.run_ready.ensures.sends

pub returns-in-Some-clause-awaited : goal.returns-in-Some-clause-awaited
returns-in-Some-clause-awaited g c = rw (← c.self.view_is) c.next_resend.ensures.awaited

pub returns-in-Some-run_held-clause-awaited : goal.returns-in-Some-run_held-clause-awaited
returns-in-Some-run_held-clause-awaited g c =
    rw (← c.self.view_is) (λ it. c.run_held.ensures.awaited (c.next_resend.ensures.awaited it))

pub returns-clause-awaited : goal.returns-clause-awaited
returns-clause-awaited g c =
    rw (← c.self.view_is) (λ it. c.run_ready.ensures.awaited (c.run_held.ensures.awaited (c.next_resend.ensures.awaited it)))
