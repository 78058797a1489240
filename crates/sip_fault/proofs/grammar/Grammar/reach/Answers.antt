use Rattle.sip_fault.specs.Readers as spec
use Rattle.sip_fault.proofs.Reaches.{further}
use Rattle.sip_fault.proofs.grammar.Grammar.reach.Goals as goal

pub loop-at-preserved : goal.loop-at-preserved
loop-at-preserved c =
    further (spec.GoesOn c.args.self) c.args.octets.now c.loop-at.at c.loop-at.invariant
    (rw (c.split_at.ensures.front, c.split_at.ensures.back) at (c.goes_on.ensures.0 c.if-not-goes_on.false))
