use Rattle.std.proofs.Common.{length}
use Rattle.sip_resolver.proofs.Restarting.{Waking}
use Rattle.sip_resolver.proofs.restarts.restart_waiting.Given as goal

abbrev pub invariant-waits : goal.invariant-waits
invariant-waits g l = Waking l.fn.requests l.requests

abbrev pub decreases-waits : goal.decreases-waits
decreases-waits g l = length l.requests.waiting
