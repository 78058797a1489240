use Rattle.std.proofs.Common.{inl, inr}
use Rattle.sipwhere.proofs.run.run_wire.Goals as goal

pub returns-clause-run : goal.returns-clause-run
returns-clause-run g c =
    elim c.locate_all-told.ensures.run [
      | inl five ↦ inl five
      | inr run ↦ inr (record { seat = _; input = _; old = _; new = _; run = run })
    ]
