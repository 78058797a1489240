use Rattle.answer_cache.proofs.Adding.{kept-none}
use Rattle.answer_cache.proofs.store_list.StoreList.new.Goals as goal

pub invariant_of-result : goal.invariant_of-result
invariant_of-result c =
    rw c.new.ensures.items (kept-none c.args.groups c.requires c.new-2.result.items c.new-2.ensures.items)
