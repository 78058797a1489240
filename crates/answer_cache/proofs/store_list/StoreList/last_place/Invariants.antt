use Rattle.std.proofs.Common.{◌≤◌, length}
use Rattle.answer_cache.proofs.Searching.{IsLeft}
use Rattle.answer_cache.proofs.store_list.StoreList.last_place.Given as goal

abbrev pub invariant-loop-left : goal.invariant-loop-left
invariant-loop-left l = record {
  few : length l.left ≤ 128;
  searches : IsLeft l.self-inside.groups l.question l.self-inside.entries.items l.left;
}

abbrev pub decreases-loop-left : goal.decreases-loop-left
decreases-loop-left l = length l.left
