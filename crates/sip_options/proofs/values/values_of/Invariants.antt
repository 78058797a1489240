use Rattle.std.proofs.Common.{length}
use Rattle.sip_options.proofs.HeaderLists.{ReadSoFar}
use Rattle.sip_options.proofs.values.values_of.Given as goal

abbrev pub invariant-loop-body : goal.invariant-loop-body
invariant-loop-body l = ReadSoFar l.field l.text l.rest l.values

abbrev pub decreases-loop-body : goal.decreases-loop-body
decreases-loop-body l = length l.rest
