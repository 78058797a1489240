use Rattle.std.proofs.Common.{◌≡◌, ◌<◌, ℕ, [], map}
use Rattle.std.specs.List.{All, range_with_len}
use Rattle.answer_log.specs.Handles.{AreHandles}
use Rattle.answer_log.specs.Histories.{mine}
use Rattle.answer_log.specs.Logs.{history}
use Rattle.answer_cache.specs.Shared.{Belongs, cache_view}
use Rattle.answer_cache.proofs.Succeeding.{seat_seen}
use Rattle.answer_cache.proofs.shared_cache.SharedCache.seats_after.Given as goal

abbrev pub invariant-seats : goal.invariant-seats
invariant-seats l = record {
  some : 0 < l._seat;
  handles : AreHandles l.handles;
  next : (l.handles.next ≡ l._seat) × (l.handles.seats ≡ l.seats) × (l.handles.groups ≡ l.self.groups);
  seen : l.handles.seen ≡ l.fn.handles.seen;
  made : map (λ seat. seat.seat) l.made.items ≡ map (seat_seen l.self.groups (history l.told.log)) (range_with_len 0 l._seat);
  belong : All (Belongs (cache_view l.self.book l.seats l.self.groups)) l.made.items;
  alone : (seat : ℕ) → 0 < seat → seat < l._seat → mine (history l.told.log) seat ≡ [];
}
