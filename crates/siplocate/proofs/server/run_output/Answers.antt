use Rattle.std.proofs.Common.{}
use Rattle.siplocate.proofs.Runs.{tells_fault}
use Rattle.siplocate.proofs.server.run_output.Goals as goal

pub returns-in-Err-clause-told : goal.returns-in-Err-clause-told
returns-in-Err-clause-told g c =
    rw c.fault_output.ensures (tells_fault c.args.workers c.args.text.now c.in-Err.fault c.in-Err.ensures.workers c.in-Err.ensures.requests)
