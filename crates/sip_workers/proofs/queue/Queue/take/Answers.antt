use Rattle.sip_workers.proofs.Moves.{takes}
use Rattle.sip_workers.proofs.queue.Queue.take.Goals as goal

pub recv_as-requires-clause-rule : goal.recv_as-requires-clause-rule
recv_as-requires-clause-rule g c = (takes g.J.Dealt.batches _ _ c.requires.worker, λ items views it at. tt)
