use Rattle.rolling_cache.proofs.Crossing.{rolling_sync}
use Rattle.rolling_cache.proofs.laws.law_threads_may_share.Goals as goal

pub returns : goal.returns
returns c = rolling_sync
