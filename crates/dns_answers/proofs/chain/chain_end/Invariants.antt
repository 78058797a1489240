use Rattle.std.proofs.Common.{◌≡◌, List, length}
use Rattle.dns_message.specs.declared.resource.Record.{Record}
use Rattle.dns_answers.specs.Lives.{least_from, ttls}
use Rattle.dns_answers.proofs.Chains.{Leads}
use Rattle.dns_answers.proofs.chain.chain_end.Given as goal

-- so many records were followed
abbrev pub invariant-loop-links : goal.invariant-loop-links
invariant-loop-links l = (passed : List Record) × (length passed ≡ l.links) × Leads l.section l.start passed l.name
    × (l.life ≡ least_from 2147483647 (ttls passed))
