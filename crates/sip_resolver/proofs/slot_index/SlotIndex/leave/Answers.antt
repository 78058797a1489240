use Rattle.std.proofs.Common.{◌≡◌, ◌<◌, Some, false, length, ap, refl, ◌∙◌, arith}
use Rattle.std.specs.List.{slice_get}
use Rattle.std.specs.Vec.{vec_capacity}
use Rattle.std.proofs.lemmas.List.{length-map, map-set}
use Rattle.std.proofs.lemmas.Option.{slice_get_read}
use Rattle.sip_resolver.specs.SlotIndexes.{key_in}
use Rattle.sip_resolver.proofs.slot_index.SlotIndex.leave.Goals as goal

pub invariant_of-self : goal.invariant_of-self
invariant_of-self c =
    let it = c.self.inside in
    let slots = it.slots.items in
    let slot = c.index.result.now in
    let inside = rw (← c.self.view_is) at c.requires in
    let long = length-map slots key_in in
    let within : c.args.place < length slots = omega (arith, inside, long) in
    let there : slice_get slots c.args.place ≡ Some slot =
    slice_get_read slots (length slots) c.args.place slot refl within c.index.ensures in
    record {
      links = c.pass.ensures.links slots slot.is_taken there c.self.invariant.links;
      fits = c.pass.ensures.room ∙ c.self.invariant.fits;
    }

pub returns : goal.returns
returns c =
    let it = c.self.inside in
    rw (← c.self.view_is)
    (ap (λ items. record { items = items; room = vec_capacity it.slots })
    (map-set key_in it.slots.items c.args.place (record { key = c.index.result.now.key; is_taken = false })))
