use Rattle.ip_text.proofs.NumberFronts.{NumberSoFar}
use Rattle.ip_text.proofs.ipv4.number_in_front.Given as goal

abbrev pub invariant-loop-at : goal.invariant-loop-at
invariant-loop-at l = NumberSoFar l.text l.at l.number
