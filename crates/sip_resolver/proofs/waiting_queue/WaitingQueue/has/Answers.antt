use Rattle.sip_resolver.proofs.Lining.{has-where}
use Rattle.sip_resolver.proofs.waiting_queue.WaitingQueue.has.Goals as goal

pub returns : goal.returns
returns g c = rw c.is_some.ensures (has-where c.args.number c.args.self.now.items c.awaited_id.result c.awaited_id.ensures)
