use Rattle.std.proofs.Common.{}
use Rattle.siplocate.proofs.requests.read_request_line.Goals as goal

pub returns-in_ok-push-in-Ok-clause-entry : goal.returns-in_ok-push-in-Ok-clause-entry
returns-in_ok-push-in-Ok-clause-entry c =
    (c.job_of.result, c.job_of.ensures c.args.line.now c.in-Ok.ensures.found, c.in_ok-push-in-Ok.ensures.items)
