use Rattle.std.proofs.Common.{◌∙◌, ap}
use Rattle.sipwhere.specs.Statuses.{in_form}
use Rattle.sipwhere.proofs.run_as.Goals as goal

pub returns-in-Ok-clause-run : goal.returns-in-Ok-clause-run
returns-in-Ok-clause-run g c = record {
  plain = c.in-Ok.status;
  ran = c.in-Ok.ensures.run;
  form = c.status_in_form.ensures.form ∙ ap (λ checks. in_form checks c.in-Ok.status) c.is_check-is_check.ensures;
}
