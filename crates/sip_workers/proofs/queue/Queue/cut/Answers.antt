use Rattle.sip_workers.proofs.Moves.{forks}
use Rattle.sip_workers.proofs.queue.Queue.cut.Goals as goal

pub another-requires-clause-rule : goal.another-requires-clause-rule
another-requires-clause-rule g c = forks g.J.Dealt.batches _ _ c.requires.parts
