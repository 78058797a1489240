use Rattle.std.proofs.Common.{◌≡◌, length, take}
use Rattle.sip_resolver.specs.SlotIndexes.{LinkSlots}
use Rattle.sip_resolver.proofs.slot_links.SlotLinks.link_all.Given as goal

abbrev pub invariant-slots : goal.invariant-slots
invariant-slots l = record {
  links : LinkSlots (take l.place l.slots) l.self;
  room : length l.self.nexts ≡ length l.fn.self.nexts;
}
