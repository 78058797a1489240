use Rattle.std.proofs.Common.{◌≡◌, subst}
use Rattle.answer_log.specs.Histories.{IsHistory, mine}
use Rattle.answer_cache.specs.Marks.{StoresView}
use Rattle.answer_cache.proofs.Adding.{own-all}
use Rattle.answer_cache.proofs.store_list.StoreList.is_history.Goals as goal

pub returns-clause-history : goal.returns-clause-history
returns-clause-history c =
    subst (λ (it : StoresView). IsHistory it.groups it.stores) c.self.view_is c.self.invariant.history

pub returns-clause-own : goal.returns-clause-own
returns-clause-own c =
    subst (λ (it : StoresView). mine it.stores 0 ≡ it.stores) c.self.view_is (own-all c.self.inside.entries.items)
