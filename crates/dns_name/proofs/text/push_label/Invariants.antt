use Rattle.std.proofs.Common.{◌≡◌, ◌++◌, take}
use Rattle.std.specs.List.{flat_map}
use Rattle.std.specs.String.{string_bytes}
use Rattle.dns_name.specs.Texts.{shown}
use Rattle.dns_name.proofs.text.push_label.Given as goal

abbrev pub invariant-loop-octet : goal.invariant-loop-octet
invariant-loop-octet l = string_bytes l.text ≡ string_bytes l.initial.text ++ flat_map shown (take l.octet-index l.label)
