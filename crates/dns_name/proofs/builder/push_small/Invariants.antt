use Rattle.std.proofs.Common.{◌≡◌, ◌++◌, take}
use Rattle.dns_name.specs.Labels.{small_letters}
use Rattle.dns_name.proofs.builder.push_small.Given as goal

abbrev pub invariant-loop-octet : goal.invariant-loop-octet
invariant-loop-octet l = l.octets.items ≡ l.initial.octets.items ++ small_letters (take l.octet-index l.label)
