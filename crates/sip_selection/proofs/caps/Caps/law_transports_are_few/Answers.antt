use Rattle.sip_selection.proofs.caps.Caps.law_transports_are_few.Goals as goal

pub returns : goal.returns
returns c = rw (← c.self.view_is) c.self.invariant.offered
