use Rattle.benchmarks.proofs.proxy.desk.resolve.Goals as goal

pub drive-requires-clause-stand : goal.drive-requires-clause-stand
drive-requires-clause-stand g c = c.submit.ensures _ c.catch_up.ensures.stand
