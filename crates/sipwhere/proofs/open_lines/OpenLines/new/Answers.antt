use Rattle.std.proofs.Common.{None, refl, arith}
use Rattle.std.proofs.lemmas.List.Elements.{All-nil}
use Rattle.std.proofs.Math.ListN.{length-replicate}
use Rattle.sipwhere.proofs.Later.{results-not}
use Rattle.sipwhere.proofs.open_lines.OpenLines.new.Goals as goal

pub returns-clause-stands : goal.returns-clause-stands
returns-clause-stands g c = λ seat. record {
  requests = rw c.in_ok-with_schedule.ensures (record { ready = All-nil _; held = All-nil _; waiting = All-nil _; ended = All-nil _ });
  results = rw c.in_ok-unknown.ensures (results-not _ _ seat c.args.settings c.args.lines.now);
}

pub invariant_of-result : goal.invariant_of-result
invariant_of-result g c = record {
  few = rw c.in_ok-with_capacity.ensures.items (omega arith);
  own = rw c.in_ok-with_schedule.ensures (λ h vanishes. refl);
  as_many = rw c.in_ok-unknown.ensures (length-replicate _ None);
}
