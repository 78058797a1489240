use Rattle.answer_cache.specs.Shared.{Belongs}
use Rattle.try_states.proofs.shared.finds_all.Given as goal

abbrev pub invariant-questions : goal.invariant-questions
invariant-questions l = Belongs l.cache l.seat
