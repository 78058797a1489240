use Rattle.std.proofs.Common.{◌≡◌, length}
use Rattle.ip_text.specs.Parts.{parted}
use Rattle.sip_uri.specs.Readers.Hostnames.{are_labels}
use Rattle.sip_uri.proofs.hostname.are_labels.Given as goal

abbrev pub invariant-loop-label : goal.invariant-loop-label
invariant-loop-label l = are_labels (parted 46 l.rest) ≡ are_labels (parted 46 l.text)

abbrev pub decreases-loop-label : goal.decreases-loop-label
decreases-loop-label l = length l.rest
