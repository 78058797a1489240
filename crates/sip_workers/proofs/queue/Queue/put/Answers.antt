use Rattle.sip_workers.proofs.Moves.{puts}
use Rattle.sip_workers.proofs.queue.Queue.put.Goals as goal

pub send_as-requires-clause-rule : goal.send_as-requires-clause-rule
send_as-requires-clause-rule g c = (puts g.J.Dealt.batches _ _ _ _ c.requires.deals c.requires.next, λ items views it at. tt)
