use Rattle.std.proofs.Common.{◌≡◌, replicate}
use Rattle.sip_resolver.specs.declared.outcome.Outcome.TheVariants.{Memory}
use Rattle.sip_worker.proofs.open_batch.unknown.Given as goal

abbrev pub invariant-outcomes : goal.invariant-outcomes
invariant-outcomes l = l.made.items ≡ replicate l._outcome Memory
