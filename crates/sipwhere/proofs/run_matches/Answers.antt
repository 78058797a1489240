use Rattle.sipwhere.specs.Statuses.{said}
use Rattle.sipwhere.proofs.run_matches.Goals as goal

pub returns-in-Ok-clause-run : goal.returns-in-Ok-clause-run
returns-in-Ok-clause-run g c = said c.in-Ok.options c.in-Ok.ensures.read c.run_as.ensures.run
