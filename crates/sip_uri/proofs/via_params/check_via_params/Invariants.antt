use Rattle.std.proofs.Common.{length}
use Rattle.sip_uri.proofs.ViaLists.{WalkedSoFar}
use Rattle.sip_uri.proofs.via_params.check_via_params.Given as goal

abbrev pub invariant-loop-rest : goal.invariant-loop-rest
invariant-loop-rest l = WalkedSoFar l.params l.rest l.count

abbrev pub decreases-loop-rest : goal.decreases-loop-rest
decreases-loop-rest l = length l.rest
