use Rattle.std.proofs.Common.{◌≡◌, ◌<◌, Some, None, length, refl, ap, ◌∙◌, arith}
use Rattle.pending_list.specs.Links.{first_address}
use Rattle.pending_list.proofs.Keeping.{first-led, first-none, length-without, entries-none}
use Rattle.pending_list.proofs.linked_list.LinkedList.destroy.Goals as goal

pub loop-link-smaller : goal.loop-link-smaller
loop-link-smaller g c =
    let e : Some c.in-Some.link.at ≡ first_address c.loop-link.self = rw c.in-Some.is at c.first.ensures in
    let f = first-led c.in-Some.link.at c.loop-link.self e in
    let fewer = length-without c.in-Some.link.at f.value c.loop-link.self f.there in
    let left = ap length c.unlink.ensures.left in
    let smaller : length c.unlink.new.self < length c.loop-link.self = omega (arith, fewer, left) in
    smaller

pub unlink-requires : goal.unlink-requires
unlink-requires g c =
    let e : Some c.in-Some.link.at ≡ first_address c.loop-link.self = rw c.in-Some.is at c.first.ensures in
    let f = first-led c.in-Some.link.at c.loop-link.self e in let there = f.there in
    record { there = rw there refl }

pub destroy-requires : goal.destroy-requires
destroy-requires g c =
    let e : None ≡ first_address c.loop-link.self = rw c.in_default.is at c.first.ensures in
    entries-none c.self.inside.nodes.cells (c.self.view_is ∙ first-none c.loop-link.self e)
