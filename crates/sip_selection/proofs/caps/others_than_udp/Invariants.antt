use Rattle.std.proofs.Common.{◌≡◌, ◌≤◌, length, take}
use Rattle.sip_selection.specs.Callers.{held_in, without_udp}
use Rattle.sip_selection.proofs.caps.others_than_udp.Given as goal

abbrev pub invariant-slots : goal.invariant-slots
invariant-slots l = record {
  four : length l.others ≡ 4;
  few : l.count ≤ l.slot-index;
  are : take l.count l.others ≡ without_udp (held_in (take l.slot-index l.slots));
}
