use Rattle.std.proofs.Common.{Some, IsSome, sym, subst, arith}
use Rattle.std.proofs.lemmas.List.{length-set}
use Rattle.pending_list.specs.Slots.{Slots, leads_at}
use Rattle.pending_list.proofs.Slots.{free-kept, leads-within, some-of}
use Rattle.pending_list.proofs.table.Table.replace.Goals as goal

pub invariant_of-self : goal.invariant_of-self
invariant_of-self g c =
    let slots = c.self.inside.slots.items in let place = c.args.place in
    let has = some-of (leads_at slots place)
    (subst (λ (it : Slots g.row.E.Denot). IsSome (leads_at it.slots place)) (sym c.self.view_is) c.requires) in
    let within = leads-within slots place has.0 has.1 in
    let same = length-set slots place (Some c.args.link) in let room = c.self.invariant.room in
    record {
      free = free-kept slots c.self.inside.free.items place c.args.link has.0 c.self.invariant.free within.1;
      room = omega (arith, same, room);
    }
