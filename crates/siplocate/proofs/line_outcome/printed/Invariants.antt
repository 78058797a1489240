use Rattle.std.proofs.Common.{◌≡◌, ◌+◌, ◌++◌, drop}
use Rattle.std.specs.String.{string_bytes}
use Rattle.siplocate.specs.Outcomes.{shown_from}
use Rattle.siplocate.proofs.line_outcome.printed.Given as goal

abbrev pub invariant-line_outcomes : goal.invariant-line_outcomes
invariant-line_outcomes l = record {
  counted : l.number ≡ l.line_outcome-index;
  shown : shown_from 1 l.line_outcomes ≡ string_bytes l.lines ++ shown_from (l.line_outcome-index + 1)
      (drop l.line_outcome-index l.line_outcomes);
}
