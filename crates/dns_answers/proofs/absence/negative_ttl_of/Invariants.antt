use Rattle.std.proofs.Common.{◌≡◌, drop}
use Rattle.dns_answers.specs.Lives.{negative_ttl_of}
use Rattle.dns_answers.proofs.absence.negative_ttl_of.Given as goal

-- the first SOA record is not among those that were passed
abbrev pub invariant-loop-entry : goal.invariant-loop-entry
invariant-loop-entry l = negative_ttl_of (drop l.entry-index l.authority) ≡ negative_ttl_of l.authority
