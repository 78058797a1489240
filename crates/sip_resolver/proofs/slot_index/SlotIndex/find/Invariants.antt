use Rattle.std.proofs.Common.{◌-◌}
use Rattle.sip_resolver.proofs.Finding.{NoneTaken}
use Rattle.sip_resolver.proofs.slot_index.SlotIndex.find.Given as goal

abbrev pub invariant-places : goal.invariant-places
invariant-places l = NoneTaken l.self-inside.slots.items l.key l.place

abbrev pub decreases-places : goal.decreases-places
decreases-places l = l.end - l.place
