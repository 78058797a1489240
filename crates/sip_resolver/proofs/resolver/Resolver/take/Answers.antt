use Rattle.std.proofs.Common.{◌≡◌, inl}
use Rattle.std.specs.Arc.{arc_value}
use Rattle.dns_answers.specs.Records.{kind_of}
use Rattle.sip_resolver.proofs.Settling.{settles-as}
use Rattle.sip_locator.specs.Replies.{Answers}
use Rattle.sip_resolver.proofs.Standing.{nothing-not, stand-later, works-not}
use Rattle.sip_resolver.proofs.Storing.{counts, hands-store, works-store}
use Rattle.sip_resolver.proofs.resolver.Resolver.take.Goals as goal

pub returns-in_default-clause-works : goal.returns-in_default-clause-works
returns-in_default-clause-works g c = works-not _ _ (g.B.AnswerBook.shown c.args.seat.now)

pub returns-in_default-clause-stand : goal.returns-in_default-clause-stand
returns-in_default-clause-stand g c =
    c.settle_all.ensures.stand (g.B.AnswerBook.shown c.args.seat.now) tt (rw (← c.self.view_is) at c.requires.stand)

pub returns-clause-works : goal.returns-clause-works
returns-clause-works g c =
    let before = g.B.AnswerBook.shown c.args.seat.now in
    let after = g.B.AnswerBook.shown c.store-kept.new.seat in
    let store = c.store-kept.ensures in
    let answer = arc_value c.in-Ok.answer in
    let answers : Answers c.args.question.now c.args.octets.now answer = rw c.in-Ok.ensures.ok c.requires.answers in
    works-store g.F.Facts.gives g.F.Facts.shows before after store.goes_on c.args.octets.now c.requires.given _ c.requires.shown
    c.args.question.now answer answers store.offered c.store-kept.result store.stored store.refused

pub returns-clause-stand : goal.returns-clause-stand
returns-clause-stand g c =
    let before = g.B.AnswerBook.shown c.args.seat.now in
    let after = g.B.AnswerBook.shown c.store-kept.new.seat in
    let store = c.store-kept.ensures in
    let answer = arc_value c.in-Ok.answer in
    let answers : Answers c.args.question.now c.args.octets.now answer = rw c.in-Ok.ensures.ok c.requires.answers in
    let works =
    works-store g.F.Facts.gives g.F.Facts.shows before after store.goes_on c.args.octets.now c.requires.given _ c.requires.shown
    c.args.question.now answer answers store.offered c.store-kept.result store.stored store.refused in
    let known =
    counts g.F.Facts.gives g.F.Facts.shows before after store.goes_on c.args.octets.now c.requires.given _ c.requires.shown
    c.args.question.now answer answers store.offered in
    let stand = rw (← c.self.view_is) at c.requires.stand in
    c.settle_all-2.ensures.stand after known (stand-later _ _ before after works c.self.inside.requests stand)

pub returns-in_default-clause-hands : goal.returns-in_default-clause-hands
returns-in_default-clause-hands g c = inl (nothing-not (g.B.AnswerBook.shown c.args.seat.now))

pub returns-clause-hands : goal.returns-clause-hands
returns-clause-hands g c =
    let before = g.B.AnswerBook.shown c.args.seat.now in
    let after = g.B.AnswerBook.shown c.store-kept.new.seat in
    let store = c.store-kept.ensures in
    let answer = arc_value c.in-Ok.answer in
    let answers : Answers c.args.question.now c.args.octets.now answer = rw c.in-Ok.ensures.ok c.requires.answers in
    rw (← c.in-Ok.ensures.ok)
    (hands-store g.F.Facts.gives g.F.Facts.shows before after store.goes_on c.args.octets.now c.requires.given _ c.requires.shown
    c.args.question.now answer answers store.offered c.store-kept.result store.stored store.refused)

pub returns-in_default-clause-settles : goal.returns-in_default-clause-settles
returns-in_default-clause-settles g c =
    rw (← c.self.view_is)
    (settles-as (λ old new it. absurd it) (λ outcome it. it) _ _ _ c.settle_all.ensures.settles)

pub returns-clause-settles : goal.returns-clause-settles
returns-clause-settles g c =
    let answer = arc_value c.in-Ok.answer in
    let kind : kind_of answer.records ≡ c.args.question.now.kind = rw c.in-Ok.ensures.ok c.requires.kind in
    rw (← c.self.view_is)
    (settles-as (λ old new it. rw (← c.in-Ok.ensures.ok) (it kind)) (λ outcome it. it) _ _ _ c.settle_all-2.ensures.settles)
