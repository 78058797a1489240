use Rattle.rolling_resolver.proofs.generation.Generation.cancel.Goals as goal

pub invariant_of-self : goal.invariant_of-self
invariant_of-self c = (
  record {
    seated = c.self.invariant.0.seated;
    groups = c.self.invariant.0.groups;
    stand = c.cancel.ensures.stand c.self.inside.seat c.self.invariant.0.stand;
  },
  c.self.invariant.1,
)

pub returns-clause-found : goal.returns-clause-found
returns-clause-found c = rw (← c.self.view_is) c.cancel.ensures.found
