use Rattle.std.proofs.Common.{◌≡◌, [], length}
use Rattle.std.specs.List.{All}
use Rattle.answer_cache.proofs.store_list.empty_lists.Given as goal

abbrev pub invariant-groups : goal.invariant-groups
invariant-groups l = record {
  count : length l.lists.items ≡ l._group;
  empty : All (λ list. list.items ≡ []) l.lists.items;
}
