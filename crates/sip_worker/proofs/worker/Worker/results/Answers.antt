use Rattle.std.proofs.Common.{◌≡◌, ap, get_or, length, refl, subst, sym, ◌∙◌, arith}
use Rattle.answer_cache.specs.Shared.{SharedView}
use Rattle.sip_worker.proofs.Collecting.{collected-all, collected-more, first-told}
use Rattle.sip_worker.proofs.Standing.{told}
use Rattle.sip_worker.specs.Outcomes.{IsOutcomeAt}
use Rattle.sip_worker.specs.declared.job.Job.{Job}
use Rattle.sip_worker.proofs.worker.Worker.results.Goals as goal

pub new-requires : goal.new-requires
new-requires g c =
    let gives = g.W.Wire.gives in
    let shows = g.C.Clock.shows in
    let seat = c.args.self.now in
    let jobs = c.args.jobs.now in
    let made = c.outcomes.results.items in
    let job = c.index-jobs-len.result in
    let len : c.len.result ≡ c.outcomes.results.len = c.len.ensures in
    let ok = c.outcomes.results.ok in
    let long : c.len.result ≡ length made = omega (arith, len, ok) in
    let same : job ≡ get_or jobs (length made) job = c.index-jobs-len.is ∙ ap (λ n. get_or jobs n job) long in
    let seen = c.notice.ensures.1 ∙ ap (λ (it : SharedView). it.seat.seen) c.self.view_is in
    let first = first-told gives shows seat jobs _ _ made c.in-Some.outcome c.in-Some.ensures.steps.0 c.outcomes.invariant job in
    let own = subst (λ (it : Job). IsOutcomeAt gives shows seat.seat it c.in-Some.outcome) (sym same) first in
    rw seen (told gives shows seat.seat job c.in-Some.outcome own)

pub outcomes-preserved : goal.outcomes-preserved
outcomes-preserved g c =
    let gives = g.W.Wire.gives in
    let shows = g.C.Clock.shows in
    let seat = c.args.self.now in
    let jobs = c.args.jobs.now in
    let made = c.outcomes.results.items in
    let job = c.index-jobs-len.result in
    let len : c.len.result ≡ c.outcomes.results.len = c.len.ensures in
    let ok = c.outcomes.results.ok in
    let long : c.len.result ≡ length made = omega (arith, len, ok) in
    let same : job ≡ get_or jobs (length made) job = c.index-jobs-len.is ∙ ap (λ n. get_or jobs n job) long in
    let cache = c.notice.ensures.0 ∙ ap (λ (it : SharedView). it.cache) c.self.view_is in
    let seen = c.notice.ensures.1 ∙ ap (λ (it : SharedView). it.seat.seen) c.self.view_is in
    rw c.in_ok-push.ensures.items
    (rw c.new.ensures
    (collected-more gives shows seat jobs _ _ made c.in-Some.outcome c.in-Some.ensures.steps.0 c.outcomes.invariant job _ same refl
    (cache, seen)))

pub returns-clause-jobs : goal.returns-clause-jobs
returns-clause-jobs g c =
    let steps = c.in-None.ensures.steps.0 in
    let ok = c.outcomes.outcome-iterator.rest.ok in
    collected-all g.W.Wire.gives g.C.Clock.shows c.args.self.now c.args.jobs.now c.outcomes.outcome-iterator.rest.items
    c.outcomes.results.items
    (omega (arith, steps, ok)) c.outcomes.invariant
