use denote.Param.Send.{sendable}
use Rattle.std.proofs.Crossing.{crosses}
use Rattle.sip_resolver.proofs.Crossing.{resolver_send}
use Rattle.rolling_cache.proofs.Crossing.{rolling_sync}
use Rattle.benchmarks.proofs.Crossing.{facts_send, ids_send, rolling_send, seat_send}
use Rattle.benchmarks.proofs.proxy.pass_by_all.Goals as goal

pub for_each_mut-requires-send-T : goal.for_each_mut-requires-send-T
for_each_mut-requires-send-T g c κs within =
    search (sendable, crosses, resolver_send, rolling_send, rolling_sync, facts_send, ids_send, seat_send) depth 100 fits 100000
