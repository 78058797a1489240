use Rattle.std.proofs.Common.{◌-◌, ◌<◌, ◌≤◌, ◌++◌, List, length}
use Rattle.sip_workers.specs.Deals.{AreSized, IsCut}
use Rattle.sip_workers.specs.declared.batch.Batch.{Batch}
use Rattle.sip_workers.proofs.run.cut.Given as goal

abbrev pub invariant-cuts : goal.invariant-cuts
invariant-cuts l = record {
  size : 0 < l.size;
  inside : l.first ≤ length l.jobs;
  cut : IsCut l.jobs l.first l.batches.items;
  sized : (later : List Batch) → AreSized l.size (length l.jobs) l.first later
      → AreSized l.size (length l.jobs) 0 (l.batches.items ++ later);
}

abbrev pub decreases-cuts : goal.decreases-cuts
decreases-cuts l = length l.jobs - l.first
