use Rattle.std.proofs.Common.{◌≡◌, length}
use Rattle.std.specs.List.{All}
use Rattle.answer_cache.specs.Nodes.{numbers_of}
use Rattle.answer_cache.proofs.shared_cache.empty_shelves.Given as goal

abbrev pub invariant-shelves : goal.invariant-shelves
invariant-shelves l = record {
  tagged : All (λ shelf. shelf.tag ≡ numbers_of l.seen.book) l.shelves.items;
  count : length l.shelves.items ≡ l._seat;
}
