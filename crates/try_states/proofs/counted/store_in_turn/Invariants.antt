use Rattle.std.proofs.Common.{◌≡◌, ◌≤◌, length}
use Rattle.answer_cache.specs.Shared.{Belongs}
use Rattle.try_states.proofs.counted.store_in_turn.Given as goal

abbrev pub invariant-rounds : goal.invariant-rounds
invariant-rounds g l = record {
  made_here : Belongs l.cache l.seat;
  number : l.seat.seat.number ≡ l.number;
  own : length l.seat.seat.own ≡ l.taken;
  taken : l.taken ≤ l.round;
}
