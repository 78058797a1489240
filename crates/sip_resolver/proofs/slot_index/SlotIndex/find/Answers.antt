use Rattle.std.proofs.Common.{◌≡◌, ◌<◌, Some, length, true, refl, sym, ◌∙◌, arith}
use Rattle.std.specs.List.{slice_get}
use Rattle.std.proofs.lemmas.Option.{slice_get_read}
use Rattle.sip_resolver.proofs.Finding.{found-first, none-found, none-further}
use Rattle.sip_resolver.proofs.Linking.{end-inside, key-there, none-behind}
use Rattle.sip_resolver.specs.SlotIndexes.{is_under}
use Rattle.sip_resolver.proofs.slot_index.SlotIndex.find.Goals as goal

pub places-preserved : goal.places-preserved
places-preserved c =
    let it = c.self.inside in
    let slots = it.slots.items in
    let slot = c.index.result.now in
    let inside = end-inside it.links slots c.self.invariant.links c.args.key in
    let end = c.end-end.ensures in
    let before = c.places-test.true in
    let within : c.places.place < length slots = omega (arith, inside, end, before) in
    let there : slice_get slots c.places.place ≡ Some slot =
    slice_get_read slots (length slots) c.places.place slot refl within c.index.ensures in
    let other : is_under c.args.key slot ≡ true → ⊥ =
    λ is. let isnt = sym c.if-is_under.false ∙ c.is_under.ensures ∙ is in cc in
    c.next-place.ensures.none slots c.self.invariant.links (key-there slots c.places.place slot there)
    (none-further slots c.args.key c.places.place slot there other c.places.invariant)

pub returns-then-is_under : goal.returns-then-is_under
returns-then-is_under c =
    let it = c.self.inside in
    let slots = it.slots.items in
    let slot = c.index.result.now in
    let inside = end-inside it.links slots c.self.invariant.links c.args.key in
    let end = c.end-end.ensures in
    let before = c.places-test.true in
    let within : c.places.place < length slots = omega (arith, inside, end, before) in
    let there : slice_get slots c.places.place ≡ Some slot =
    slice_get_read slots (length slots) c.places.place slot refl within c.index.ensures in
    rw (← c.self.view_is)
    (found-first slots c.args.key c.places.place slot there (sym c.is_under.ensures ∙ c.if-is_under.true) c.places.invariant)

pub returns : goal.returns
returns c =
    let it = c.self.inside in
    let over = rw c.end-end.ensures at c.places-test.false in
    rw (← c.self.view_is)
    (none-found it.slots.items c.args.key
    (none-behind it.links it.slots.items c.self.invariant.links c.args.key c.places.place over c.places.invariant))
