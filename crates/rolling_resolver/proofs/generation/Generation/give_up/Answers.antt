use Rattle.std.proofs.Common.{◌-◌, refl, arith}
use Rattle.rolling_resolver.proofs.generation.Generation.give_up.Goals as goal

pub invariant_of-self : goal.invariant_of-self
invariant_of-self c = (
  record {
    seated = c.self.invariant.0.seated;
    groups = c.self.invariant.0.groups;
    stand = c.close.ensures.stand c.self.inside.seat c.self.invariant.0.stand;
  },
  c.self.invariant.1,
)

pub returns-clause-found : goal.returns-clause-found
returns-clause-found c = λ yes. rw (← c.self.view_is) (record {
  id = c.args.query - c.self.inside.mark;
  out = record {
    below = c.if-query-self-ge-IDS.false;
    named = omega (arith, c.if-query-self.false);
    out = c.close.ensures.found.0 yes;
  };
  closes = c.close.ensures.closes yes;
  others = refl;
})
