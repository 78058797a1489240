use Rattle.std.proofs.Common.{◌<◌, length, sym, ◌∙◌, arith}
use Rattle.std.proofs.lemmas.Bool.Decides.{nat_tests}
use Rattle.ip_text.proofs.NumberFronts.{too_large, ends_at_end}
use Rattle.ip_text.proofs.Rows.{left_at_end}
use Rattle.ip_text.proofs.ipv4.number_in_front.Goals as goal

pub returns-then-number-gt255 : goal.returns-then-number-gt255
returns-then-number-gt255 c =
    too_large c.args.text.now c.loop-at.at c.loop-at.number c.loop-at.invariant c.loop-at-test.true
    (sym c.is_ascii_digit.ensures.value ∙ c.if-not-is_ascii_digit.false) (omega (arith, c.from.ensures, c.if-number-gt255.true))

pub returns-else-is_empty : goal.returns-else-is_empty
returns-else-is_empty c =
    let some : 0 < length c.args.text.now = grind (arith, nat_tests, c.if-is_empty.ensures) in
    rw (left_at_end c.args.text.now c.loop-at.at c.loop-at-test.false) at
    (ends_at_end c.args.text.now c.loop-at.at c.loop-at.number c.loop-at.invariant c.loop-at-test.false
    (omega (arith, some, c.loop-at-test.false)))
