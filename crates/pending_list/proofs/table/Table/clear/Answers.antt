use Rattle.std.proofs.Common.{None, IsSome, sym, subst, arith}
use Rattle.std.proofs.lemmas.List.{length-set}
use Rattle.pending_list.specs.Slots.{Slots, leads_at}
use Rattle.pending_list.proofs.Slots.{free-cleared, leads-within, some-of, taken-fewer}
use Rattle.pending_list.proofs.table.Table.clear.Goals as goal

pub unreachable-requires : goal.unreachable-requires
unreachable-requires g c =
    let slots = c.self.inside.slots.items in let place = c.args.place in
    let has = some-of (leads_at slots place)
    (subst (λ (it : Slots g.row.E.Denot). IsSome (leads_at it.slots place)) (sym c.self.view_is) c.requires) in
    let within = leads-within slots place has.0 has.1 in
    let fewer = taken-fewer slots place has.0 within.1 in
    let all = c.self.invariant.free.all in let room = c.self.invariant.room in let full = c.in-Err.ensures.full in
    absurd (omega (arith, fewer, all, room, full))

pub invariant_of-self : goal.invariant_of-self
invariant_of-self g c =
    let slots = c.self.inside.slots.items in let place = c.args.place in
    let has = some-of (leads_at slots place)
    (subst (λ (it : Slots g.row.E.Denot). IsSome (leads_at it.slots place)) (sym c.self.view_is) c.requires) in
    let within = leads-within slots place has.0 has.1 in
    let same = length-set slots place None in let room = c.self.invariant.room in let grown = c.push.ensures.capacity in
    record {
      free = rw c.in-Ok.ensures.items (free-cleared slots c.self.inside.free.items place has.0 c.self.invariant.free within.1 within.0);
      room = omega (arith, same, room, grown);
    }
