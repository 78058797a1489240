use Rattle.benchmarks.proofs.proxy.desk.take_outcomes.Goals as goal

pub returns-then-not-take_outcome-clause-stand : goal.returns-then-not-take_outcome-clause-stand
returns-then-not-take_outcome-clause-stand c = λ seat stand.
    c.take_outcome.ensures.stand seat (c.outcomes.invariant seat stand)

pub outcomes-preserved : goal.outcomes-preserved
outcomes-preserved c = λ seat stand. c.take_outcome.ensures.stand seat (c.outcomes.invariant seat stand)
