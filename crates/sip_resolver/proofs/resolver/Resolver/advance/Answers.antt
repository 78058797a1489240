use Rattle.sip_resolver.proofs.Inside.{ended-too}
use Rattle.sip_resolver.proofs.Standing.{stand-later, works-quietly}
use Rattle.sip_resolver.proofs.resolver.Resolver.advance.Goals as goal

pub returns-in-Ended-clause-stand : goal.returns-in-Ended-clause-stand
returns-in-Ended-clause-stand g c =
    let before = g.B.AnswerBook.shown c.args.seat.now in
    let after = g.B.AnswerBook.shown c.step.new.seat in
    let works = works-quietly _ _ before after c.step.ensures.goes_on c.step.ensures.stores_nothing in
    let stand = rw (← c.self.view_is) at c.requires.stand in
    let later = stand-later _ _ before after works c.self.inside.requests stand in
    let outcome = rw c.in-Ended.is at c.step.ensures.leads c.requires.counted in
    rw (c.put_ended.ensures, c.new-ended.ensures, c.of-was.ensures)
    (ended-too _ _ after c.self.inside.requests _ later outcome)

pub returns-in-Asks-clause-stand : goal.returns-in-Asks-clause-stand
returns-in-Asks-clause-stand g c =
    let before = g.B.AnswerBook.shown c.args.seat.now in
    let after = g.B.AnswerBook.shown c.step.new.seat in
    let works = works-quietly _ _ before after c.step.ensures.goes_on c.step.ensures.stores_nothing in
    let stand = rw (← c.self.view_is) at c.requires.stand in
    let later = stand-later _ _ before after works c.self.inside.requests stand in
    let it = rw c.in-Asks.is at c.step.ensures.leads c.requires.counted in
    c.wait_for_answer.ensures.stand after it.1 it.2 later

pub returns-in-Ended-clause-awaited : goal.returns-in-Ended-clause-awaited
returns-in-Ended-clause-awaited g c = rw (← c.self.view_is) (λ it. rw c.put_ended.ensures it)

pub returns-in-Asks-clause-awaited : goal.returns-in-Asks-clause-awaited
returns-in-Asks-clause-awaited g c = rw (← c.self.view_is) c.wait_for_answer.ensures.awaited
