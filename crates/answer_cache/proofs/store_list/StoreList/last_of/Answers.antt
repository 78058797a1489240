use Rattle.std.proofs.Common.{◌≡◌, None, Some, subst, sym}
use Rattle.std.specs.List.{last_or}
use Rattle.answer_log.specs.Histories.{stores_of}
use Rattle.answer_cache.specs.Marks.{IsLastAt, StoresView, store_in}
use Rattle.answer_cache.proofs.Searching.{last-there, none-there}
use Rattle.answer_cache.proofs.store_list.StoreList.last_of.Goals as goal

pub returns-in_err-place : goal.returns-in_err-place
returns-in_err-place c =
    rw c.from_residual.ensures (none-there c.args.question.now c.args.self.now.stores c.in_err-place.ensures)

pub returns : goal.returns
returns c =
    let q = c.args.question.now in
    let place = c.in_ok-place.place in
    let entry = c.index.result.now in
    let view = c.self.view_is in
    subst (λ (it : StoresView). last_or None (stores_of q it.stores) ≡ Some (store_in entry)) view
    (last-there q c.self.inside.entries.items place
    (subst (λ (it : StoresView). IsLastAt q it.stores place) (sym view) c.in_ok-place.ensures) entry c.index.ensures)
