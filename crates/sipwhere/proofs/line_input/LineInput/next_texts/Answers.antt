use Rattle.sipwhere.proofs.Inputs.{gives-on}
use Rattle.sipwhere.proofs.line_input.LineInput.next_texts.Goals as goal

pub loop-preserved : goal.loop-preserved
loop-preserved g c = gives-on _ _ _ _ _ c.loop.invariant c.in_ok-read_on.ensures
