use Rattle.sip_workers.proofs.Moves.{learns}
use Rattle.sip_workers.proofs.queue.Queue.tell_whole.Goals as goal

pub learn_as-requires-clause-rule : goal.learn_as-requires-clause-rule
learn_as-requires-clause-rule g c = learns g.J.Dealt.batches _ _ c.requires.whole.0 c.requires.whole.1
