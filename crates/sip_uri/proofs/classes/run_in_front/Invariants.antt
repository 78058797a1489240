use Rattle.std.proofs.Common.{length}
use Rattle.sip_uri.specs.Readers.Runs.{octets_of}
use Rattle.sip_uri.proofs.RunFronts.{RunFront}
use Rattle.sip_uri.proofs.classes.run_in_front.Given as goal

abbrev pub invariant-loop-behind : goal.invariant-loop-behind
invariant-loop-behind l = RunFront (octets_of l.class) l.text l.rest

abbrev pub decreases-loop-behind : goal.decreases-loop-behind
decreases-loop-behind l = length l.rest
