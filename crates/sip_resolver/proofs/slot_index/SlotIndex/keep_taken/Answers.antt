use Rattle.std.proofs.Common.{ap, rules}
use Rattle.std.proofs.lemmas.Fn.{filter_same}
use Rattle.std.specs.Vec.{vec_capacity}
use Rattle.sip_resolver.proofs.Finding.{keys-kept}
use Rattle.sip_resolver.specs.declared.slot_links.KeyedSlot.{KeyedSlot}
use Rattle.sip_resolver.proofs.slot_index.SlotIndex.keep_taken.Goals as goal

pub returns : goal.returns
returns c =
    let kept = filter_same _ (λ (slot : KeyedSlot). slot.is_taken) _ (λ x b f' k. search rules) _ _ c.retain.ensures.filtered in
    rw (← c.self.view_is, kept, c.retain.ensures.capacity)
    (ap (λ items. record { items = items; room = vec_capacity c.self.inside.slots }) (keys-kept c.self.inside.slots.items))
