use Rattle.std.proofs.Common.{◌≡◌, length}
use Rattle.sip_uri.specs.Readers.Runs.{octets_of, is_run}
use Rattle.sip_uri.proofs.classes.is_run.Given as goal

abbrev pub invariant-loop-behind : goal.invariant-loop-behind
invariant-loop-behind l = is_run (octets_of l.class) l.rest ≡ is_run (octets_of l.class) l.text

abbrev pub decreases-loop-behind : goal.decreases-loop-behind
decreases-loop-behind l = length l.rest
