use Rattle.std.proofs.Common.{◌≡◌, true, sym, ◌∙◌}
use Rattle.std.specs.Option.{is_some}
use Rattle.std.proofs.lemmas.List.{take_all}
use Rattle.sip_resolver.proofs.Slotting.{first-here, none-to}
use Rattle.sip_resolver.proofs.waiting_slots.WaitingSlots.first_from.Goals as goal

pub slots-preserved : goal.slots-preserved
slots-preserved g c =
    let other : is_some c.at.result.now.task ≡ true → ⊥ =
    λ is. let isnt = sym c.if-is_taken.false ∙ c.is_taken.ensures ∙ is in cc in
    none-to c.self.inside.slots.items c.slots.place c.at.result.now c.at.ensures c.slots.invariant other

pub returns-then-is_taken : goal.returns-then-is_taken
returns-then-is_taken g c =
    rw (← c.self.view_is)
    (first-here c.self.inside.slots.items c.slots.place c.at.result.now c.at.ensures c.slots.invariant
    (sym c.is_taken.ensures ∙ c.if-is_taken.true))

pub returns : goal.returns
returns g c =
    let over = rw c.len-place-end.ensures at c.slots-test.false in
    rw (← c.self.view_is) (rw (take_all c.slots.place c.self.inside.slots.items over) at c.slots.invariant)
