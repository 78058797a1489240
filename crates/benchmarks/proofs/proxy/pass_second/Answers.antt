use denote.Param.Send.{sendable}
use Rattle.std.proofs.Crossing.{crosses}
use Rattle.rolling_cache.proofs.Crossing.{rolling_sync}
use Rattle.benchmarks.proofs.proxy.pass_second.Goals as goal

pub pass_by_all-requires-sync-S : goal.pass_by_all-requires-sync-S
pass_by_all-requires-sync-S g c κs within = search (sendable, crosses, rolling_sync) depth 60 fits 100000
