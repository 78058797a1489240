use Rattle.benchmarks.proofs.proxy.desk.change.Goals as goal

pub returns-clause-stand : goal.returns-clause-stand
returns-clause-stand g c = c.restart.ensures.anywhere c.requires.none _
