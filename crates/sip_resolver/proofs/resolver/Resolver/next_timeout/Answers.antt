use Rattle.sip_resolver.proofs.resolver.Resolver.next_timeout.Goals as goal

pub returns : goal.returns
returns g c = rw (← c.self.view_is) (c.least_of.ensures _ _ c.next_due.ensures c.next_until.ensures)
