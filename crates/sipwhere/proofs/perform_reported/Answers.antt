use Rattle.std.proofs.Common.{inr, subst, sym}
use Rattle.sipwhere.specs.Statuses.{IsOfWords}
use Rattle.sipwhere.proofs.perform_reported.Goals as goal

pub returns-in-Ok-clause-run : goal.returns-in-Ok-clause-run
returns-in-Ok-clause-run g c = inr (subst (IsOfWords c.args.terminals) (sym c.from.ensures) c.in-Ok.ensures.run)
