use Rattle.std.proofs.Common.{◌≡◌, ◌++◌, map, take}
use Rattle.ip_text.specs.declared.address.Address.TheVariants.{V6}
use Rattle.sip_selection.specs.Services.{target_at}
use Rattle.sip_selection.proofs.targets.push_v6.Given as goal

abbrev pub invariant-loop-octets : goal.invariant-loop-octets
invariant-loop-octets l =
    l.targets.items ≡ l.initial.targets.items ++ map (target_at l.transport l.port) (map V6 (take l.octets-index l.addresses))
