use Rattle.std.proofs.Common.{◌≡◌, true, ap, ◌∙◌}
use Rattle.sip_resolver.proofs.Expiring.{choice-without-reply, late-one, unanswered-is, unanswered-without-reply}
use Rattle.sip_resolver.proofs.Inside.{ended-too}
use Rattle.sip_resolver.proofs.Standing.{stand-later, works-quietly}
use Rattle.sip_resolver.specs.Expiries.{is_expired}
use Rattle.sip_resolver.specs.Outcomes.{Sought}
use Rattle.sip_resolver.specs.Tasks.{sought_of}
use Rattle.sip_resolver.proofs.expiries.end_late.Goals as goal

pub returns-in-Ended-clause-stand : goal.returns-in-Ended-clause-stand
returns-in-Ended-clause-stand g c =
    let before = g.B.AnswerBook.shown c.args.seat.now in
    let after = g.B.AnswerBook.shown c.step.new.seat in
    let works = works-quietly _ _ before after c.step.ensures.goes_on c.step.ensures.stores_nothing in
    let later = stand-later _ _ before after works c.args.requests.now c.requires.stand in
    let outcome = rw c.in-Ended.is at c.step.ensures.leads c.requires.counted in
    rw (c.put_ended.ensures, c.new.ensures, c.of-was.ensures)
    (ended-too _ _ after c.args.requests.now _ later outcome)

pub returns-in-Asks-clause-stand : goal.returns-in-Asks-clause-stand
returns-in-Asks-clause-stand g c =
    let before = g.B.AnswerBook.shown c.args.seat.now in
    let after = g.B.AnswerBook.shown c.step.new.seat in
    let works = works-quietly _ _ before after c.step.ensures.goes_on c.step.ensures.stores_nothing in
    let later = stand-later _ _ before after works c.args.requests.now c.requires.stand in
    let it = rw c.in-Asks.is at c.step.ensures.leads c.requires.counted in
    let outcome = unanswered-is _ _ after c.in-Asks.task c.unanswered-outcome.result c.unanswered-outcome.ensures it.1 it.2 in
    rw c.end.ensures (ended-too _ _ after c.args.requests.now _ later outcome)

pub returns-in-Ended-clause-ends : goal.returns-in-Ended-clause-ends
returns-in-Ended-clause-ends g c =
    rw (c.put_ended.ensures, c.new.ensures, c.of-was.ensures)
    (late-one c.args.now c.args.requests.now.ended _ c.requires.over
    (choice-without-reply c.in-Ended.outcome (rw c.in-Ended.is at c.step.ensures.ends)))

pub returns-in-Asks-clause-ends : goal.returns-in-Asks-clause-ends
returns-in-Asks-clause-ends g c =
    let it = rw c.in-Asks.is at c.step.ensures.leads c.requires.counted in
    let over : is_expired c.args.now (sought_of c.in-Asks.task).until ≡ true =
    ap (λ (it : Sought). is_expired c.args.now it.until) it.0 ∙ c.requires.over in
    rw c.end.ensures
    (late-one c.args.now c.args.requests.now.ended _ over
    (unanswered-without-reply c.in-Asks.task c.unanswered-outcome.result c.unanswered-outcome.ensures))
