use Rattle.sip_workers.proofs.Moves.{begins}
use Rattle.sip_workers.proofs.queue.Queue.new.Goals as goal

pub bounded_with-requires-clause-rule : goal.bounded_with-requires-clause-rule
bounded_with-requires-clause-rule g c = begins g.J.Dealt.batches
