use denote.Param.Send.{IsSync, sendable}
use Rattle.std.proofs.Crossing.{crosses}
use Rattle.dns_zone.specs.contracts.zone.Zone as Zone
use Rattle.rolling_cache.proofs.Crossing.{rolling_sync}
use Rattle.benchmarks.proofs.workers.rolling.by_all_over.Goals as goal

zone_sync : IsSync Zone.the_row
zone_sync = search (sendable, crosses) depth 60 fits 100000

pub by_all-requires-sync-W : goal.by_all-requires-sync-W
by_all-requires-sync-W g c κs within = search (sendable, rolling_sync, zone_sync) depth 40 fits 10000
