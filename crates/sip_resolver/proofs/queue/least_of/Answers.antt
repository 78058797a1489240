use Rattle.std.proofs.Common.{arith}
use Rattle.sip_resolver.proofs.Deadlines.{least-behind, least-in-front, none-behind, none-in-front}
use Rattle.sip_resolver.proofs.queue.least_of.Goals as goal

pub returns-in_default : goal.returns-in_default
returns-in_default c = λ ones others none it. none-in-front ones others c.args.other (rw c.in_default.is at none) it

pub returns-in_default-other : goal.returns-in_default-other
returns-in_default-other c = λ ones others it none.
    none-behind ones others c.in-Some.first (rw c.in-Some.is at it) (rw c.in_default-other.is at none)

pub returns-then-first-second : goal.returns-then-first-second
returns-then-first-second c = λ ones others it is.
    least-in-front ones others c.in-Some.first c.in-Some-other.second (rw c.in-Some.is at it) (rw c.in-Some-other.is at is)
    c.if-first-second.true

pub returns-else-first-second : goal.returns-else-first-second
returns-else-first-second c = λ ones others it is.
    let less = c.if-first-second.false in
    least-behind ones others c.in-Some.first c.in-Some-other.second (rw c.in-Some.is at it) (rw c.in-Some-other.is at is)
    (omega (arith, less))
