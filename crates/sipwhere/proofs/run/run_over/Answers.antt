use Rattle.std.proofs.Common.{inl, inr}
use Rattle.sipwhere.proofs.run.run_over.Goals as goal

pub returns-clause-run : goal.returns-clause-run
returns-clause-run g c =
    let of = c.settings_of-settings.ensures in
    elim c.run_wire.ensures.run [
      | inl five ↦ inl five
      | inr run ↦ inr (record {
        settings = c.settings_of-settings.result;
        are = record {
          caps = of.caps;
          key_is = of.key;
          schedule = of.schedule;
          total = of.total;
          extent = of.extent;
          sent_by = of.sent_by;
          told = of.accounts;
          draws = of.draws;
        };
        run = run;
      })
    ]
