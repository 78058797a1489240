use Rattle.std.proofs.Common.{arith}
use Rattle.dns_name.proofs.Leads.{lands_first, lands_next}
use Rattle.dns_name.proofs.landing.landing_at.Goals as goal

pub returns-then-next-eq0 : goal.returns-then-next-eq0
returns-then-next-eq0 c = λ _.
    let piece = rw c.in-Some-Pointer.field-0-is at c.in-Some-Pointer.ensures in
    lands_first c.args.bytes.now c.args.offset c.in-Some-Pointer.target piece (omega (arith, c.if-target-offset.false))

pub returns-else-next-eq0 : goal.returns-else-next-eq0
returns-else-next-eq0 c = λ some.
    let piece = rw c.in-Some-Pointer.field-0-is at c.in-Some-Pointer.ensures in
    let known = c.requires.known c.in-Some-Pointer.target _ (omega (arith, c.if-target-offset.false, c.requires.before)) some in
    lands_next c.args.bytes.now c.args.offset c.in-Some-Pointer.target piece _ _
    (omega (arith, c.if-target-offset.false, c.if-offset-target-lt2.false)) known
