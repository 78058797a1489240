use Rattle.sip_resolver.proofs.Queues.{Searched}
use Rattle.sip_resolver.proofs.queue.Queue.has.Given as goal

abbrev pub invariant-items : goal.invariant-items
invariant-items g l = Searched g.T.Numbered.numbered l.number l.self-inside.items.items l.at
