use Rattle.proxy_example.proofs.proxy.tell_outcomes.Goals as goal

pub returns-in_err-tell_next-clause-stand : goal.returns-in_err-tell_next-clause-stand
returns-in_err-tell_next-clause-stand g c = λ seat stand. c.tell_next.ensures.stand seat (c.outcomes.invariant seat stand)

pub returns-then-not-branch-clause-stand : goal.returns-then-not-branch-clause-stand
returns-then-not-branch-clause-stand g c = λ seat stand. c.tell_next.ensures.stand seat (c.outcomes.invariant seat stand)

pub outcomes-preserved : goal.outcomes-preserved
outcomes-preserved g c = λ seat stand. c.tell_next.ensures.stand seat (c.outcomes.invariant seat stand)
