use Rattle.rolling_resolver.proofs.Soundness.{taken-out}
use Rattle.rolling_resolver.proofs.generation.Generation.next_ended.Goals as goal

pub invariant_of-self : goal.invariant_of-self
invariant_of-self c = (
  record {
    seated = c.self.invariant.0.seated;
    groups = c.self.invariant.0.groups;
    stand = c.poll_outcome.ensures.stand c.self.inside.seat c.self.invariant.0.stand;
  },
  c.self.invariant.1,
)

pub returns-clause-taken : goal.returns-clause-taken
returns-clause-taken c =
    rw (← c.self.view_is)
    (taken-out c.self.inside.seat c.self.inside.mark c.self.inside.core c.poll_outcome.new.self c.poll_outcome.result
    c.poll_outcome.ensures.taken
    (c.poll_outcome.ensures.outcome c.self.inside.seat c.self.invariant.0.stand))
