use Rattle.std.proofs.Common.{ap, ◌∙◌}
use Rattle.dns_transport.specs.Frames.{FramingView}
use Rattle.dns_transport.proofs.Flows.{writes_then}
use Rattle.dns_transport.proofs.framing.Framing.write.Goals as goal

pub parts-preserved : goal.parts-preserved
parts-preserved g c = (
  c.write_part.ensures.untaken ∙ ap (λ (it : FramingView). it.untaken) c.leave_written.ensures ∙ c.parts.invariant.0,
  writes_then _ _ _ _ _ _ c.parts.invariant.1 (rw c.leave_written.ensures at c.write_part.ensures.writes),
)

pub returns-in-Waits : goal.returns-in-Waits
returns-in-Waits g c = record {
  untaken = c.write_part.ensures.untaken ∙ ap (λ (it : FramingView). it.untaken) c.leave_written.ensures ∙ c.parts.invariant.0;
  writes = writes_then _ _ _ _ _ _ c.parts.invariant.1 (rw c.leave_written.ensures at c.write_part.ensures.writes);
}

pub returns-in-Failed : goal.returns-in-Failed
returns-in-Failed g c = record {
  untaken = c.write_part.ensures.untaken ∙ ap (λ (it : FramingView). it.untaken) c.leave_written.ensures ∙ c.parts.invariant.0;
  writes = writes_then _ _ _ _ _ _ c.parts.invariant.1 (rw c.leave_written.ensures at c.write_part.ensures.writes);
}
