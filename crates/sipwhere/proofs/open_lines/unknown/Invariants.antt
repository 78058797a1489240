use Rattle.std.proofs.Common.{◌≡◌, None, replicate}
use Rattle.sipwhere.proofs.open_lines.unknown.Given as goal

abbrev pub invariant-things : goal.invariant-things
invariant-things g l = l.made.items ≡ replicate l._thing None
