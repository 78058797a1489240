use Rattle.std.proofs.Common.{◌≡◌, rules}
use Rattle.sip_worker.specs.SameJobs.{same_job}
use Rattle.sip_worker.specs.SameJobs.Decided.{job_decides}
use Rattle.sip_worker.proofs.job.JobPartialEq.eq.Goals as goal

pub returns-then-are_same_caps-clause-same : goal.returns-then-are_same_caps-clause-same
returns-then-are_same_caps-clause-same c =
    let value : c.eq.result ≡ same_job c.args.self.now c.args.other.now = search rules in
    rw value (job_decides c.args.self.now c.args.other.now)

pub returns-else-are_same_caps-clause-same : goal.returns-else-are_same_caps-clause-same
returns-else-are_same_caps-clause-same c =
    let value : c.if-is_same_request.value ≡ same_job c.args.self.now c.args.other.now = search rules in
    rw value (job_decides c.args.self.now c.args.other.now)
