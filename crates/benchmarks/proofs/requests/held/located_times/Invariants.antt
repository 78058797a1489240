use Rattle.answer_cache.specs.Shared.{Belongs}
use Rattle.benchmarks.proofs.requests.held.located_times.Given as goal

abbrev pub invariant-locators : goal.invariant-locators
invariant-locators l = Belongs l.book l.seat
