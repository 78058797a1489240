use denote.Param.Send.{sendable}
use Rattle.std.proofs.Common.{}
use Rattle.std.proofs.Crossing.{crosses}
use Rattle.sip_workers.proofs.Crossing.{part_send}
use Rattle.sip_workers.proofs.threads.start.Goals as goal

pub spawn_with-requires-send-T : goal.spawn_with-requires-send-T
spawn_with-requires-send-T g c κs within = search (sendable, crosses, part_send) depth 40 fits 10000
