use Rattle.sipwhere.proofs.Ends.{ends-located, ends-ready}
use Rattle.sipwhere.proofs.submitted_lines.line_outcome_of.Goals as goal

pub returns-in-Ok : goal.returns-in-Ok
returns-in-Ok g c = ends-located _ _ _ _ _ c.in-Ok.ensures.found _ c.became.ensures

pub returns-in-Err : goal.returns-in-Err
returns-in-Err g c = ends-ready _ _ _ _ _ c.in-Err.ensures.ready
