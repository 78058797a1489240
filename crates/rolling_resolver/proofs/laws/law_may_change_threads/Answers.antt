use Rattle.rolling_resolver.proofs.Crossing.{rolling_send}
use Rattle.rolling_resolver.proofs.laws.law_may_change_threads.Goals as goal

pub returns : goal.returns
returns c = rolling_send
