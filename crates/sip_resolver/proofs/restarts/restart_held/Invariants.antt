use Rattle.std.proofs.Common.{length}
use Rattle.sip_resolver.proofs.Restarting.{Holding}
use Rattle.sip_resolver.proofs.restarts.restart_held.Given as goal

abbrev pub invariant-tasks : goal.invariant-tasks
invariant-tasks g l = Holding l.fn.requests l.requests

abbrev pub decreases-tasks : goal.decreases-tasks
decreases-tasks g l = length l.requests.held
