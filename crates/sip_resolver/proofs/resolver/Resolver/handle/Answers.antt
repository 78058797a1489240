use Rattle.std.proofs.Common.{ap, ◌∙◌, Result, Ok, Err, OnErr}
use Rattle.sip_resolver.proofs.Awaiting.{closed-in}
use Rattle.sip_resolver.specs.Requests.{RequestsView}
use Rattle.sip_resolver.proofs.Standing.{nothing-not, works-not}
use Rattle.sip_resolver.proofs.Storing.{hands-in}
use Rattle.sip_resolver.specs.Resolvers.{nothing}
use Rattle.sip_resolver.proofs.resolver.Resolver.handle.Goals as goal

pub returns-in_err-why-clause-works : goal.returns-in_err-why-clause-works
returns-in_err-why-clause-works g c = works-not _ _ (g.B.AnswerBook.shown c.args.seat.now)

pub returns-in-Ignored-clause-works : goal.returns-in-Ignored-clause-works
returns-in-Ignored-clause-works g c = works-not _ _ (g.B.AnswerBook.shown c.args.seat.now)

pub returns-then-retries_over_stream-clause-works : goal.returns-then-retries_over_stream-clause-works
returns-then-retries_over_stream-clause-works g c = works-not _ _ (g.B.AnswerBook.shown c.args.seat.now)

pub returns-then-retries_over_stream-clause-stand : goal.returns-then-retries_over_stream-clause-stand
returns-then-retries_over_stream-clause-stand g c =
    c.settle_all.ensures.stand (g.B.AnswerBook.shown c.args.seat.now) tt (rw (← c.self.view_is) at c.requires.stand)

pub returns-in_err-why-clause-hands : goal.returns-in_err-why-clause-hands
returns-in_err-why-clause-hands g c = nothing (nothing-not (g.B.AnswerBook.shown c.args.seat.now))

pub returns-in-Ignored-clause-hands : goal.returns-in-Ignored-clause-hands
returns-in-Ignored-clause-hands g c = nothing (nothing-not (g.B.AnswerBook.shown c.args.seat.now))

pub returns-then-retries_over_stream-clause-hands : goal.returns-then-retries_over_stream-clause-hands
returns-then-retries_over_stream-clause-hands g c = nothing (nothing-not (g.B.AnswerBook.shown c.args.seat.now))

pub returns-else-retries_over_stream-clause-hands : goal.returns-else-retries_over_stream-clause-hands
returns-else-retries_over_stream-clause-hands g c =
    let means = rw c.in-Ended.is at c.in_ok-why.ensures.means in
    rw (← c.self.view_is)
    (hands-in c.args.over c.args.octets.now c.args.now c.self.inside.questions (g.B.AnswerBook.shown c.args.seat.now)
    (g.B.AnswerBook.shown c.hear.new.seat) c.in-Ended.id c.in-Ended.question c.in-Ended.ending means c.hear.ensures.hands)

pub returns-then-retries_over_stream-clause-hears : goal.returns-then-retries_over_stream-clause-hears
returns-then-retries_over_stream-clause-hears g c =
    let means = rw c.in-Ended.is at c.in_ok-why.ensures.means in
    let left = rw c.in-Ended.is at c.in_ok-why.ensures.left in
    let cut = c.retries_over_stream.ensures.0 c.if-retries_over_stream.true in
    rw (← c.self.view_is) (
      c.in-Ended.ending,
      record {
        id = c.in-Ended.id;
        question = c.in-Ended.question;
        means = means;
        left = left;
        settles = c.settle_all.ensures.settles;
      },
      cut,
    )

pub returns-else-retries_over_stream-clause-hears : goal.returns-else-retries_over_stream-clause-hears
returns-else-retries_over_stream-clause-hears g c =
    let means = rw c.in-Ended.is at c.in_ok-why.ensures.means in
    let left = rw c.in-Ended.is at c.in_ok-why.ensures.left in
    rw (← c.self.view_is) (
      c.in-Ended.ending,
      record {
        id = c.in-Ended.id;
        question = c.in-Ended.question;
        means = means;
        left = c.hear.ensures.asking ∙ left;
        settles = c.hear.ensures.settles;
      },
      (λ cut. let yes = c.retries_over_stream.ensures.1 cut in let no = c.if-retries_over_stream.false in cc),
    )

pub returns-then-retries_over_stream-clause-awaited : goal.returns-then-retries_over_stream-clause-awaited
returns-then-retries_over_stream-clause-awaited g c =
    let left = rw c.in-Ended.is at c.in_ok-why.ensures.left in
    rw (← c.self.view_is)
    (λ it.
    rw (left, ap (λ (v : RequestsView). v.waiting) c.settle_all.ensures.settles.new_is)
    (closed-in c.args.over c.in-Ended.id c.self.inside.questions c.self.inside.requests.waiting it))

pub returns-else-retries_over_stream-clause-awaited : goal.returns-else-retries_over_stream-clause-awaited
returns-else-retries_over_stream-clause-awaited g c =
    let left = rw c.in-Ended.is at c.in_ok-why.ensures.left in
    rw (← c.self.view_is)
    (λ it.
    rw (c.hear.ensures.asking, left, ap (λ (v : RequestsView). v.waiting) c.hear.ensures.settles.new_is)
    (closed-in c.args.over c.in-Ended.id c.self.inside.questions c.self.inside.requests.waiting it))

pub returns-in_err-why-clause-wanted : goal.returns-in_err-why-clause-wanted
returns-in_err-why-clause-wanted g c = wanted-by c.from_residual.result (rw (← c.self.view_is) c.in_err-why.ensures.wanted)
  where
    wanted-by : {X E P : Type 0} (it : Result X E) → P → OnErr it P
    wanted-by (Ok x) p = tt
    wanted-by (Err e) p = p
