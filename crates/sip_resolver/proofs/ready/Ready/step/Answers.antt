use Rattle.sip_resolver.proofs.ready.Ready.step.Goals as goal

pub returns-in-Begun-clause-leads : goal.returns-in-Begun-clause-leads
returns-in-Begun-clause-leads g c = rw (← c.self.view_is, c.in-Begun.is) (rw c.in-Begun.task-is at c.go_on.ensures.leads)
