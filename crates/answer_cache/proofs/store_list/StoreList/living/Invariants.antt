use Rattle.std.proofs.Common.{◌≡◌, ◌++◌, drop}
use Rattle.answer_cache.specs.Carried.{carried_stores, living_of}
use Rattle.answer_cache.proofs.store_list.StoreList.living.Given as goal

abbrev pub invariant-places : goal.invariant-places
invariant-places l = record {
  groups : l.living.groups ≡ l.self.groups;
  living : carried_stores (living_of l.now l.self.stores)
      ≡ l.living.stores ++ carried_stores (living_of l.now (drop l.place l.self.stores));
}
