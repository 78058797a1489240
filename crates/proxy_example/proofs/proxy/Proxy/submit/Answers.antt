use Rattle.proxy_example.proofs.proxy.Proxy.submit.Goals as goal

pub invariant_of-self : goal.invariant_of-self
invariant_of-self g c = (c.self.invariant.0, c.submit.ensures.stand _ c.self.invariant.1)
