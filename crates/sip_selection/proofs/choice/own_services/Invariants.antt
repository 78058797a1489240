use Rattle.std.proofs.Common.{◌≡◌, ◌≤◌, length, take}
use Rattle.sip_selection.specs.Choice.{tried_services}
use Rattle.sip_selection.proofs.choice.own_services.Given as goal

abbrev pub invariant-loop-slot : goal.invariant-loop-slot
invariant-loop-slot l = record {
  are : l.services.items ≡ tried_services l.secure l.name (take l.slot-index l.slot-items);
  few : length l.services.items ≤ l.slot-index;
}
