use Rattle.std.proofs.Common.{◌∙◌}
use Rattle.sip_resolver.proofs.Slotting.{ends-of}
use Rattle.sip_resolver.proofs.waiting_slots.WaitingSlots.count_at.Goals as goal

pub returns : goal.returns
returns g c = rw (← c.self.view_is) record {
  count = c.count_at.ensures.count ∙ ends-of c.args.moment c.self.inside.slots.items;
}
