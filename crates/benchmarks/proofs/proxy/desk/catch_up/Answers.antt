use Rattle.benchmarks.proofs.proxy.desk.catch_up.Goals as goal

pub change-requires-clause-stand : goal.change-requires-clause-stand
change-requires-clause-stand g c = c.take_outcomes.ensures.stand _ c.requires.stand

pub returns-else-take_outcomes-clause-stand : goal.returns-else-take_outcomes-clause-stand
returns-else-take_outcomes-clause-stand g c = c.take_outcomes.ensures.stand _ c.requires.stand
