use Rattle.std.proofs.Common.{◌≡◌, ◌++◌, drop}
use Rattle.sip_selection.proofs.known.push_given.Given as goal

abbrev pub invariant-loop-at : goal.invariant-loop-at
invariant-loop-at l = l.entries.items ++ drop l.at l.others ≡ l.initial.entries.items ++ drop l.count l.others
