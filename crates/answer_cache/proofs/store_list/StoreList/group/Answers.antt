use Rattle.std.proofs.Common.{◌%◌, ◌∙◌, ap}
use Rattle.answer_cache.specs.Marks.{StoresView}
use Rattle.answer_cache.proofs.Powers.{masked}
use Rattle.answer_cache.proofs.store_list.StoreList.group.Goals as goal

pub returns : goal.returns
returns c =
    masked c.self.inside.groups c.args.hash c.self.invariant.count.power
    ∙ ap (λ (it : StoresView). c.args.hash % it.groups) c.self.view_is
