use Rattle.std.proofs.Common.{◌≡◌, ◌++◌}
use Rattle.siplocate.specs.Runs.{line_outcomes_of}
use Rattle.siplocate.proofs.line_outcome.line_outcomes_of.Given as goal

abbrev pub invariant-entries : goal.invariant-entries
invariant-entries l = line_outcomes_of l.fn.entries.items l.fn.made.items
    ≡ l.line_outcomes.items ++ line_outcomes_of l.entry-iterator.rest.items l.made.rest.items
