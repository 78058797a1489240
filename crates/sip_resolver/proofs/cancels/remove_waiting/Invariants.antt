use Rattle.std.proofs.Common.{length}
use Rattle.sip_resolver.proofs.Cancelling.{Removed}
use Rattle.sip_resolver.proofs.cancels.remove_waiting.Given as goal

abbrev pub invariant-waits : goal.invariant-waits
invariant-waits g l = Removed l.number l.fn.requests l.requests l.fn.questions l.questions

abbrev pub decreases-waits : goal.decreases-waits
decreases-waits g l = length l.requests.waiting
