use Rattle.std.proofs.Common.{◌+◌, length}
use Rattle.dns_name.specs.Octets.{IsPadded}
use Rattle.dns_name.proofs.LabelsFromTheEnd.{IsWritten}
use Rattle.dns_name.proofs.text.put_labels.Given as goal

-- behind the place the octets are those of the name of the text from there on
abbrev pub invariant-loop-at : goal.invariant-loop-at
invariant-loop-at l = record {
  padded : IsPadded l.octets (length l.text + 2);
  written : IsWritten l.text l.octets l.at l.length;
}

abbrev pub decreases-loop-at : goal.decreases-loop-at
decreases-loop-at l = l.at
