use Rattle.std.proofs.Common.{length}
use Rattle.sip_uri.proofs.ViaValues.{FoundSoFar}
use Rattle.sip_uri.proofs.via_values.param_value.Given as goal

abbrev pub invariant-loop-found : goal.invariant-loop-found
invariant-loop-found l = FoundSoFar l.params l.name l.rest

abbrev pub decreases-loop-found : goal.decreases-loop-found
decreases-loop-found l = length l.rest
