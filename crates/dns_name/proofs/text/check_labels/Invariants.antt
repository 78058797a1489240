use Rattle.std.proofs.Common.{◌≡◌, length, drop}
use Rattle.dns_name.specs.Texts.{labels_fault, parted}
use Rattle.dns_name.proofs.text.check_labels.Given as goal

-- the labels so far have no fault
abbrev pub invariant-loop-label : goal.invariant-loop-label
invariant-loop-label l =
    let labels = parted l.text in
    record {
      can_next : (goal.iterator-loop-label).can_next l.label-iterator;
      is_finite : (goal.iterator-loop-label).is_finite l.label-iterator;
      faultless : labels_fault (drop (length l.yielded) labels) ≡ labels_fault labels;
    }
