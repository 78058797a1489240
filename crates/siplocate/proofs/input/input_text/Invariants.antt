use Rattle.std.specs.Prelude.{◌-◌, ◌≤◌, length}
use Rattle.std.specs.Io.KnownBytes.{Consumes}
use Rattle.siplocate.proofs.input.input_text.Given as goal

-- what was read is what the input has no longer, and not too long
abbrev pub invariant-loop-octets : goal.invariant-loop-octets
invariant-loop-octets g l = Consumes (g.R.Read.remaining l.initial.input) (g.R.Read.remaining l.input) l.octets.items
    × (length l.octets.items ≤ 1048576)

-- each part has an octet at least
abbrev pub decreases-loop-octets : goal.decreases-loop-octets
decreases-loop-octets g l = 1048576 - length l.octets.items
