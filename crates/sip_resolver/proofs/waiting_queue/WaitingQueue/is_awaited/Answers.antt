use Rattle.std.proofs.Common.{◌∙◌}
use Rattle.sip_resolver.proofs.Lining.{awaited-where}
use Rattle.sip_resolver.proofs.waiting_queue.WaitingQueue.is_awaited.Goals as goal

pub returns : goal.returns
returns g c =
    rw (← c.self.view_is)
    (c.is_some.ensures ∙ awaited-where c.args.id c.self.inside.slots.items c.find.result c.find.ensures)
