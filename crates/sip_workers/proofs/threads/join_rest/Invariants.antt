use Rattle.std.proofs.Common.{length}
use Rattle.sip_workers.proofs.threads.join_rest.Given as goal

abbrev pub decreases-threads : goal.decreases-threads
decreases-threads g l = length l.threads.items
