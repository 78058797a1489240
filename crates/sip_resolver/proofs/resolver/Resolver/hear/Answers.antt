use Rattle.sip_resolver.proofs.Settling.{settles-as}
use Rattle.sip_resolver.proofs.Standing.{nothing-not, works-not}
use Rattle.sip_resolver.specs.Outcomes.{IsFaulty}
use Rattle.sip_resolver.proofs.resolver.Resolver.hear.Goals as goal

pub returns-in-Faulty-clause-works : goal.returns-in-Faulty-clause-works
returns-in-Faulty-clause-works g c = works-not _ _ (g.B.AnswerBook.shown c.args.seat.now)

pub returns-in-Faulty-clause-stand : goal.returns-in-Faulty-clause-stand
returns-in-Faulty-clause-stand g c =
    let ends = rw c.in-Faulty.is at c.requires.ends.ends in
    let faulty : IsFaulty g.F.Facts.gives c.args.question.now c.in-Faulty.refusal = record {
      octets = c.args.octets.now;
      given = c.requires.given;
      it = c.requires.ends.it;
      begins = c.requires.ends.begins;
      fault = ends.0;
      ends = ends.1;
    } in
    c.settle_all.ensures.stand (g.B.AnswerBook.shown c.args.seat.now) faulty (rw (← c.self.view_is) at c.requires.stand)

pub returns-in-Faulty-clause-hands : goal.returns-in-Faulty-clause-hands
returns-in-Faulty-clause-hands g c = rw c.in-Faulty.is (nothing-not (g.B.AnswerBook.shown c.args.seat.now))

pub returns-in-Answered-clause-hands : goal.returns-in-Answered-clause-hands
returns-in-Answered-clause-hands g c = rw c.in-Answered.is c.take.ensures.hands

pub returns-in-Faulty-clause-settles : goal.returns-in-Faulty-clause-settles
returns-in-Faulty-clause-settles g c =
    rw (c.in-Faulty.is, ← c.self.view_is)
    (settles-as (λ old new it. it) (λ outcome it. it) _ _ _ c.settle_all.ensures.settles)

pub returns-in-Answered-clause-settles : goal.returns-in-Answered-clause-settles
returns-in-Answered-clause-settles g c =
    rw c.in-Answered.is (settles-as (λ old new it. it) (λ outcome it. it) _ _ _ c.take.ensures.settles)
