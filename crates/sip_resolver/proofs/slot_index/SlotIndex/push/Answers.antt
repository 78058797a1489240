use Rattle.std.proofs.Common.{◌≡◌, true, length, ◌+◌, ap, sym, ◌∙◌, rules}
use Rattle.sip_resolver.proofs.slot_index.SlotIndex.push.Goals as goal

pub invariant_of-self : goal.invariant_of-self
invariant_of-self c =
    let it = c.self.inside in
    let long : length it.slots.items ≡ c.len.result = search rules in
    rw c.push_reserved.ensures.items record {
      links = c.add.ensures.links it.slots.items true long c.self.invariant.links;
      fits = c.add.ensures.room ∙ c.self.invariant.fits ∙ ap (λ n. n + 1) (sym c.push_reserved.ensures.capacity);
    }
