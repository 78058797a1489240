use Rattle.std.proofs.Common.{inl, inr}
use Rattle.sipwhere.proofs.run.run.Goals as goal

pub returns-clause-run : goal.returns-clause-run
returns-clause-run g c =
    elim c.run_over.ensures.run [
      | inl five ↦ inl five
      | inr run ↦ inr (record {
        plan = c.in_ok-plan.plan;
        is_plan = c.in_ok-plan.ensures.plan;
        key = c.in_ok-key.key;
        is_key = c.in_ok-key.ensures.key;
        run = run;
      })
    ]
