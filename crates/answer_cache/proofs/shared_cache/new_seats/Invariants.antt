use Rattle.std.proofs.Common.{◌≡◌, map}
use Rattle.std.specs.List.{range_with_len}
use Rattle.answer_log.specs.Handles.{AreHandles}
use Rattle.answer_cache.specs.Shared.{cache_view, new_seat}
use Rattle.answer_cache.proofs.shared_cache.new_seats.Given as goal

abbrev pub invariant-seats : goal.invariant-seats
invariant-seats l = record {
  handles : AreHandles l.handles;
  next : (l.handles.next ≡ l._seat) × (l.handles.seats ≡ l.seats) × (l.handles.groups ≡ l.fn.handles.groups);
  book : l.handles.seen.book ≡ l.fn.handles.seen.book;
  made : l.made.items ≡ map (new_seat (cache_view l.fn.handles.seen.book l.seats l.fn.handles.groups)) (range_with_len 0 l._seat);
}
