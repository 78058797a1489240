use Rattle.std.proofs.Common.{◌≤◌, ◌-◌, length}
use Rattle.dns_name.specs.ShortNames.{AreLabels}
use Rattle.dns_name.proofs.message.behind_labels.Given as goal

abbrev pub invariant-loop-length : goal.invariant-loop-length
invariant-loop-length l = record {
  labels : AreLabels l.bytes l.offset l.end;
  forward : l.offset ≤ l.end;
  within : l.offset ≤ l.last → l.end ≤ l.last;
}

abbrev pub decreases-loop-length : goal.decreases-loop-length
decreases-loop-length l = length l.bytes - l.end
