use Rattle.std.proofs.Common.{◌≡◌, None, length, refl, ap, ◌∙◌, arith, rules}
use Rattle.std.specs.Prelude.{replicate}
use Rattle.std.specs.List.{range_with_len}
use Rattle.std.proofs.lemmas.List.FromFn.{length-range_with_len}
use Rattle.std.proofs.lemmas.Iterator.{items_from_collect, YieldsList-from_range}
use Rattle.pending_list.proofs.Slots.{free-all, length-none}
use Rattle.pending_list.proofs.table.Table.new.Goals as goal

pub invariant_of-result : goal.invariant_of-result
invariant_of-result g c =
    let slots : c.in_ok-slots.slots.items ≡ replicate c.args.limit None =
    c.in_ok-slots.ensures.items_if_clones_equal (λ y h. search rules) in
    let free : c.in_ok-free.free.items ≡ range_with_len 0 c.args.limit =
    rw c.in_ok-free.was at (items_from_collect c.collect.result c.collect.ensures.ran
    (YieldsList-from_range 0 c.args.limit c.args.limit refl (omega arith))) in
    let ok = c.in_ok-free.free.ok in
    record {
      free = rw (slots, free) (free-all _ c.args.limit);
      room =
          let long : length c.in_ok-slots.slots.items ≡ c.args.limit = ap length slots ∙ length-none c.args.limit None in
          let whole = ap length free ∙ length-range_with_len 0 c.args.limit in omega (arith, long, whole, ok);
    }
