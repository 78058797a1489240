use Rattle.std.specs.Prelude.{◌≡◌}
use Rattle.std.specs.List.{All}
use Rattle.answer_cache.specs.Seats.{GoesOn}
use Rattle.rolling_cache.specs.Rolling.{IsAt, IsStoredAgain}
use Rattle.rolling_cache.proofs.seat.RollingSeat.store_again.Given as goal

abbrev pub invariant-stores : goal.invariant-stores
invariant-stores g l = record {
  at : IsAt l.self;
  generation : l.self.generation ≡ l.initial.self.generation;
  goes_on : GoesOn l.initial.self.seat.seat l.self.seat.seat;
  again : All (IsStoredAgain l.now l.before.seat.seat.offered) l.self.seat.seat.offered;
}
