use Rattle.std.proofs.Common.{◌≡◌, ℕ, ◌+◌, sym, ◌∙◌, arith}
use Rattle.dns_name.specs.Offsets.{OctetAt}
use Rattle.dns_name.specs.ShortNames.{none, more}
use Rattle.dns_name.proofs.message.behind_labels.Goals as goal

pub loop-length-init : goal.loop-length-init
loop-length-init c = record { labels = none; forward = omega arith; within = λ le. le }

pub loop-length-preserved : goal.loop-length-preserved
loop-length-preserved c =
    let l = c.loop-length in
    let n : ℕ = c.from-length.result in
    let found = c.in-Some.ensures.lookup.3 in
    let here : OctetAt c.args.bytes.now l.end n = record { within = found.0; is = sym (found.1 0) ∙ sym c.from-length.ensures } in
    let next : l.end + 1 + n ≡ l.end + (1 + n) = omega arith in
    let labels = more n l.invariant.labels here (omega (arith, c.if-length-eq0.false)) (omega (arith, c.if-length-gt63.false))
    (omega (arith, c.if-end-length.false, c.requires)) in
    record {
      labels = rw next at labels;
      forward = omega (arith, l.invariant.forward);
      within = λ le. omega (arith, c.if-end-length.false);
    }
