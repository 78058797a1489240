use Rattle.std.proofs.Common.{◌≡◌, List, map}
use Rattle.std.specs.List.{All}
use Rattle.answer_log.specs.Groups.{hash_of, hashed_of}
use Rattle.answer_log.specs.Handles.{IsSame, spent_of}
use Rattle.answer_log.specs.Cursors.{Ahead}
use Rattle.answer_log.specs.declared.store.Store.{Store}
use Rattle.answer_cache.specs.Nodes.{Costs, offer_of_node}
use Rattle.answer_cache.proofs.Gathering.{Gathers}
use Rattle.answer_cache.proofs.shared_cache.SharedCache.last_nodes.Given as goal

abbrev pub invariant-links : goal.invariant-links
invariant-links l = record {
  books : (l.cursor.seen.book ≡ l.self.book) × (l.handle.book.book ≡ l.self.book);
  same : IsSame l.fn.handle l.handle;
  tagged : All (λ node. node.now.tag ≡ hash_of (hashed_of node.now.question)) l.nodes.items;
  gathers : (whole : List Store) → Ahead l.fn.cursor whole
      → Gathers whole l.cursor l._link (map (λ node. offer_of_node node.now) l.nodes.items);
  costs : Costs (spent_of l.fn.handle) (spent_of l.handle) l._link 0;
}
