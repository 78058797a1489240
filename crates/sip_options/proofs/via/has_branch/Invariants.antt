use Rattle.std.proofs.Common.{length}
use Rattle.sip_options.specs.Vias.{HasBranch}
use Rattle.sip_options.proofs.via.has_branch.Given as goal

abbrev pub invariant-loop-param : goal.invariant-loop-param
invariant-loop-param l = record {
  forth : HasBranch l.branch l.rest → HasBranch l.branch l.params;
  back : HasBranch l.branch l.params → HasBranch l.branch l.rest;
}

abbrev pub decreases-loop-param : goal.decreases-loop-param
decreases-loop-param l = length l.rest
