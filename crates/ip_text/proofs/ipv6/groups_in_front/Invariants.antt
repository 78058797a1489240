use Rattle.std.proofs.Common.{length}
use Rattle.ip_text.proofs.V6Fronts.{FrontSoFar}
use Rattle.ip_text.proofs.ipv6.groups_in_front.Given as goal

abbrev pub invariant-loop-number : goal.invariant-loop-number
invariant-loop-number l = FrontSoFar l.text l.octets.items l.rest

abbrev pub decreases-loop-number : goal.decreases-loop-number
decreases-loop-number l = length l.rest
