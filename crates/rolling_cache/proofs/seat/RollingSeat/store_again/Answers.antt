use Rattle.std.proofs.Common.{◌∙◌, subst}
use Rattle.std.specs.List.{Contains}
use Rattle.rolling_cache.specs.Rolling.{RollingView}
use Rattle.rolling_cache.proofs.Late.{again-more, goes-on-trans, late-at}
use Rattle.rolling_cache.proofs.seat.RollingSeat.store_again.Goals as goal

pub stores-preserved : goal.stores-preserved
stores-preserved g c =
    let C : RollingView → Type 0 = λ it. Contains it.seat.seat.offered c.store-item.result in
    let was : Contains c.before-2.inside.seat.seat.offered c.store-item.result =
    late-at c.before-2.inside.seat.seat.offered c.before-2.inside.late.items c.deref-store-items.result.now c.stores.store-index
    c.store-item.result c.deref-store-items.ensures.value c.store-item.is c.stores-test.true c.before-2.invariant in
    record {
      at = c.store_late.ensures.at;
      generation = c.store_late.ensures.generation ∙ c.stores.invariant.generation;
      goes_on = goes-on-trans _ _ _ c.stores.invariant.goes_on c.store_late.ensures.goes_on;
      again = again-more c.args.now c.args.before.now.seat.seat.offered c.stores.self.seat.seat.offered
          c.store_late.new.self.seat.seat.offered c.store-item.result c.store_late.ensures.offered
          (subst C c.before-2.view_is was) c.stores.invariant.again;
    }
