use Rattle.sip_worker.proofs.Collecting.{Collected}
use Rattle.sip_worker.proofs.worker.Worker.results.Given as goal

abbrev pub invariant-outcomes : goal.invariant-outcomes
invariant-outcomes g l = Collected g.W.Wire.gives g.C.Clock.shows l.fn.self l.jobs l.outcome-iterator.rest.items l.results.items
