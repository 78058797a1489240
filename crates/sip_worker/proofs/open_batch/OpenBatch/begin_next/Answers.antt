use Rattle.std.proofs.Common.{◌∙◌, arith}
use Rattle.sip_worker.proofs.Reporting.{begun-more}
use Rattle.sip_worker.proofs.Weighing.{own-weighs}
use Rattle.sip_worker.specs.Batches.{strange}
use Rattle.sip_worker.proofs.open_batch.OpenBatch.begin_next.Goals as goal

pub invariant_of-self : goal.invariant_of-self
invariant_of-self g c =
    let jobs = c.self.inside.jobs.now in
    let few = c.self.invariant.few in
    let more = c.if-place-self.false in
    let job = c.index-jobs-place.result in
    record {
      few = omega (arith, few, more);
      own = c.begin.ensures.weighs (strange jobs)
          (own-weighs jobs c.self.inside.begun job (omega (arith, few, more)) c.index-jobs-place.is)
          ∙ c.self.invariant.own;
      as_many = c.self.invariant.as_many;
    }

pub returns-clause-stands : goal.returns-clause-stands
returns-clause-stands g c = λ seat before.
    let stands = rw (← c.self.view_is) at before in
    record { requests = c.begin.ensures.stand seat stands.requests; told = stands.told }

pub returns-clause-reported : goal.returns-clause-reported
returns-clause-reported g c = λ before.
    (let few = c.self.invariant.few in
    let more = c.if-place-self.false in
    begun-more _ _ _ _ _ c.index-jobs-place.result (omega (arith, few, more)) c.index-jobs-place.is c.begin.ensures.began
    c.begin.ensures.ended c.begin.ensures.weighs (rw (← c.self.view_is) at before))
