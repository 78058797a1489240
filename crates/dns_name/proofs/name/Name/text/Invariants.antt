use Rattle.std.proofs.Common.{◌≡◌, ◌++◌, ℕ, List, length}
use Rattle.std.specs.List.{AllByRecursion, flat_map}
use Rattle.std.specs.String.{string_bytes}
use Rattle.dns_name.specs.Labels.{IsLabel, wire_of}
use Rattle.dns_name.specs.Texts.{label_text, text_of}
use Rattle.dns_name.proofs.name.Name.text.Given as goal

-- the octets are those of the labels that are left, whose text completes that of the name
abbrev pub invariant-loop-label : goal.invariant-loop-label
invariant-loop-label l =
    (labels : List (List ℕ)) × AllByRecursion IsLabel labels × (l.octets ≡ wire_of labels)
    × (string_bytes l.text ++ flat_map label_text labels ≡ text_of l.self)

abbrev pub decreases-loop-label : goal.decreases-loop-label
decreases-loop-label l = length l.octets
