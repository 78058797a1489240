use Rattle.std.proofs.Common.{◌≡◌, take}
use Rattle.std.specs.List.{filter_map}
use Rattle.sip_selection.specs.Fallbacks.{over_udp}
use Rattle.sip_selection.proofs.fallbacks.all_over_udp.Given as goal

abbrev pub invariant-loop-target : goal.invariant-loop-target
invariant-loop-target l = l.all.items ≡ filter_map over_udp (take l.target-index l.targets)
