use Rattle.proxy_example.proofs.proxy.tell_and_catch_up.Goals as goal

pub catch_up-requires-clause-stand : goal.catch_up-requires-clause-stand
catch_up-requires-clause-stand g c = c.tell_outcomes.ensures.stand _ c.requires.stand

pub returns-in_err-tell_outcomes-clause-stand : goal.returns-in_err-tell_outcomes-clause-stand
returns-in_err-tell_outcomes-clause-stand g c = c.tell_outcomes.ensures.stand _ c.requires.stand

pub returns-else-branch-clause-stand : goal.returns-else-branch-clause-stand
returns-else-branch-clause-stand g c = c.tell_outcomes.ensures.stand _ c.requires.stand
