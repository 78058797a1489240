use Rattle.std.proofs.Common.{◌≡◌, [], take}
use Rattle.sip_resolver.specs.WaitingQueues.{items_of}
use Rattle.sip_resolver.proofs.waiting_slots.WaitingSlots.first_from.Given as goal

abbrev pub invariant-slots : goal.invariant-slots
invariant-slots g l = items_of (take l.place l.self-inside.slots.items) ≡ []
