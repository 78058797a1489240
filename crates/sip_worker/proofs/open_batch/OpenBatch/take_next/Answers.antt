use Rattle.std.proofs.Common.{arith}
use Rattle.sip_worker.proofs.Reporting.{ended-more}
use Rattle.sip_worker.proofs.Telling.{outcome-for, told-one}
use Rattle.sip_worker.proofs.Weighing.{taken-owned, weighs-less}
use Rattle.sip_worker.proofs.open_batch.OpenBatch.take_next.Goals as goal

pub index_mut-requires : goal.index_mut-requires
index_mut-requires g c =
    let it = taken-owned c.self.inside.jobs.now c.in-Some.ended c.self.inside.resolver c.poll_outcome.new.self
    c.in-Some.ensures.taken c.self.invariant.own in
    let inside = it.one.inside in
    let many = c.self.invariant.as_many in
    let place = c.number-place.ensures in
    omega (arith, inside, many, place)

pub job_at-requires : goal.job_at-requires
job_at-requires g c =
    let it = taken-owned c.self.inside.jobs.now c.in-Some.ended c.self.inside.resolver c.poll_outcome.new.self
    c.in-Some.ensures.taken c.self.invariant.own in
    let inside = it.one.inside in
    let place = c.number-place.ensures in
    omega (arith, inside, place)

pub returns-clause-stands : goal.returns-clause-stands
returns-clause-stands g c = λ seat before.
    let stands = rw (← c.self.view_is) at before in
    let jobs = c.self.inside.jobs.now in
    let it = taken-owned jobs c.in-Some.ended c.self.inside.resolver c.poll_outcome.new.self
    c.in-Some.ensures.taken c.self.invariant.own in
    record {
      requests = c.poll_outcome.ensures.stand seat stands.requests;
      told = rw (c.number-place.ensures, c.into_outcome.ensures)
          (told-one _ _ seat jobs c.self.inside.outcomes.items c.in-Some.ended.sought.number c.in-Some.ended.outcome it.one.inside
          stands.told
          (λ d. outcome-for _ _ seat c.in-Some.ended.sought c.in-Some.ended.sought.number _ c.in-Some.ended.outcome (it.one.is d)
          (c.in-Some.ensures.outcome seat stands.requests)));
    }

pub returns-clause-reported : goal.returns-clause-reported
returns-clause-reported g c = λ before.
    (let few = c.self.invariant.few in
    let is = rw c.number-place.ensures at c.job_at.ensures in
    ended-more _ _ _ _ _ c.job_at.result.now c.in-Some.ended.sought few is c.answered.ensures
    (λ h. weighs-less h c.in-Some.ended c.self.inside.resolver c.poll_outcome.new.self c.in-Some.ensures.taken)
    (rw (← c.self.view_is) at before))
