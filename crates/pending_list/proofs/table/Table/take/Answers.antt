use Rattle.std.proofs.Common.{◌≡◌, ◌++◌, ◌∷◌, [], Some, subst, ap, ◌∙◌, arith}
use Rattle.std.specs.Option.{option_to_list}
use Rattle.std.proofs.lemmas.List.{length-set}
use Rattle.pending_list.specs.Slots.{AreFree}
use Rattle.pending_list.proofs.Slots.{free-taken}
use Rattle.pending_list.proofs.table.Table.take.Goals as goal

pub invariant_of-self : goal.invariant_of-self
invariant_of-self g c =
    let slots = c.self.inside.slots.items in let place = c.in-Some.place in
    let stack : c.self.inside.free.items ≡ c.pop.new.self.items ++ place ∷ [] =
    c.pop.ensures.items ∙ ap (λ o. c.pop.new.self.items ++ option_to_list o) c.in-Some.is in
    let same = length-set slots place (Some c.args.link) in let room = c.self.invariant.room in let kept = c.pop.ensures.capacity in
    record {
      free = free-taken slots c.pop.new.self.items place c.args.link (subst (AreFree slots) stack c.self.invariant.free);
      room = omega (arith, same, room, kept);
    }
