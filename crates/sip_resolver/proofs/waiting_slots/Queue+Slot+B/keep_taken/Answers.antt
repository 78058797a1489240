use Rattle.std.proofs.Common.{refl, rules}
use Rattle.std.specs.Option.{is_some}
use Rattle.std.proofs.lemmas.Fn.{filter_same}
use Rattle.sip_resolver.specs.WaitingQueues.{SlotView}
use Rattle.sip_resolver.proofs.waiting_slots.Queue+Slot+B.keep_taken.Goals as goal

pub returns : goal.returns
returns g c =
    let kept = filter_same _ (λ (slot : SlotView). is_some slot.task) _ (λ x b f' k. search rules) _ _ c.retain.ensures.filtered in
    rw (← c.self.view_is, kept, c.retain.ensures.capacity) refl
