use Rattle.sipwhere.proofs.Inputs.{reading-none}
use Rattle.sipwhere.proofs.line_input.LineInput.new.Goals as goal

pub returns-clause-none : goal.returns-clause-none
returns-clause-none g c = reading-none c.new.result.items c.new.ensures.items
