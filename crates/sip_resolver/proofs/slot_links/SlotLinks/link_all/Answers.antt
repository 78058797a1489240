use Rattle.std.proofs.Common.{false, take, ◌∙◌, arith}
use Rattle.std.proofs.lemmas.List.{length-take-le, take_more}
use Rattle.sip_resolver.specs.declared.slot_links.KeyedSlot.{KeyedSlot}
use Rattle.sip_resolver.proofs.slot_links.SlotLinks.link_all.Goals as goal

pub slots-preserved : goal.slots-preserved
slots-preserved c =
    let slots = c.args.slots.now in
    let before = c.slots-test.true in
    let none : KeyedSlot = record { key = 0; is_taken = false } in
    record {
      links = rw (take_more slots c.slots.place none before)
          (c.add.ensures.links (take c.slots.place slots) _ (length-take-le c.slots.place slots (omega (arith, before)))
          c.slots.invariant.links);
      room = c.add.ensures.room ∙ c.slots.invariant.room;
    }
