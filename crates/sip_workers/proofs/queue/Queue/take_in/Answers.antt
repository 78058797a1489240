use Rattle.sip_workers.proofs.Moves.{merges}
use Rattle.sip_workers.proofs.queue.Queue.take_in.Goals as goal

pub absorb-requires-clause-rule : goal.absorb-requires-clause-rule
absorb-requires-clause-rule g c = merges g.J.Dealt.batches _ _ _ _
