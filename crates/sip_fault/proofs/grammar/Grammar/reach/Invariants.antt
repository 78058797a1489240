use Rattle.sip_fault.specs.Readers as spec
use Rattle.sip_fault.proofs.Reaches.{GoesOnUpTo}
use Rattle.sip_fault.proofs.grammar.Grammar.reach.Given as goal

abbrev pub invariant-loop-at : goal.invariant-loop-at
invariant-loop-at l = GoesOnUpTo (spec.GoesOn l.self) l.octets l.at
