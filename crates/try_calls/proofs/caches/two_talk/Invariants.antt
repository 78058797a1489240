use Rattle.answer_cache.specs.Shared.{Belongs}
use Rattle.try_calls.proofs.caches.two_talk.Given as goal

abbrev pub invariant-lines : goal.invariant-lines
invariant-lines g l = record {
  first : Belongs l.cache l.first;
  second : Belongs l.cache l.second;
}
