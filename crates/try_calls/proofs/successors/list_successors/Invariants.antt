use Rattle.answer_cache.specs.Lists.{IsListSeat}
use Rattle.try_calls.proofs.successors.list_successors.Given as goal

abbrev pub invariant-lines : goal.invariant-lines
invariant-lines g l = IsListSeat l.seat
