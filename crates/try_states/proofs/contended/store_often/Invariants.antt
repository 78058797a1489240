use Rattle.answer_cache.specs.Shared.{Belongs}
use Rattle.try_states.proofs.contended.store_often.Given as goal

abbrev pub invariant-stores : goal.invariant-stores
invariant-stores g l = Belongs l.cache l.seat
