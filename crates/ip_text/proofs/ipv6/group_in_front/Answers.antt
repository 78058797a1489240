use Rattle.std.proofs.Common.{◌<◌, length, arith}
use Rattle.std.proofs.lemmas.Bool.Decides.{nat_tests}
use Rattle.std.proofs.lemmas.List.{take_rest}
use Rattle.ip_text.proofs.GroupFronts.{ends_here, one_more, ends_at_end}
use Rattle.ip_text.proofs.Rows.{left_at_end}
use Rattle.ip_text.proofs.ipv6.group_in_front.Goals as goal

pub returns-else-at-eq0 : goal.returns-else-at-eq0
returns-else-at-eq0 c =
    rw (take_rest c.args.text.now c.loop-at.at)
    (ends_here c.args.text.now c.loop-at.at c.loop-at.number c.loop-at.invariant c.loop-at-test.true c.in-None.ensures
    (omega (arith, c.if-at-eq0.false)))

pub loop-at-preserved : goal.loop-at-preserved
loop-at-preserved c =
    rw c.from.ensures
    (one_more c.args.text.now c.loop-at.at c.loop-at.number c.loop-at.invariant c.loop-at-test.true c.in-Some.digit
    c.in-Some.ensures (omega (arith, c.if-at-gt3.false)))

pub returns-else-is_empty : goal.returns-else-is_empty
returns-else-is_empty c =
    let some : 0 < length c.args.text.now = grind (arith, nat_tests, c.if-is_empty.ensures) in
    rw (left_at_end c.args.text.now c.loop-at.at c.loop-at-test.false) at
    (ends_at_end c.args.text.now c.loop-at.at c.loop-at.number c.loop-at.invariant c.loop-at-test.false
    (omega (arith, some, c.loop-at-test.false)))
