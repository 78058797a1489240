use Rattle.ip_text.proofs.GroupFronts.{GroupSoFar}
use Rattle.ip_text.proofs.ipv6.group_in_front.Given as goal

abbrev pub invariant-loop-at : goal.invariant-loop-at
invariant-loop-at l = GroupSoFar l.text l.at l.number
