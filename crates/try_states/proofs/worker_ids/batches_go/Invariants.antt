use Rattle.answer_cache.specs.Shared.{Belongs}
use Rattle.try_states.proofs.worker_ids.batches_go.Given as goal

abbrev pub invariant-batches : goal.invariant-batches
invariant-batches g l = Belongs l.cache l.worker
