use Rattle.std.proofs.Common.{arith, map}
use Rattle.sip_resolver.proofs.Deadlines.{deadline, least-behind, least-in-front, least-of, none-behind, none-in-front}
use Rattle.sip_resolver.proofs.questions.Questions.next_due.Goals as goal

pub returns-in_default : goal.returns-in_default
returns-in_default c =
    let datagrams = c.self.inside.datagrams.tickets in
    let streams = c.self.inside.streams.tickets in
    let front = rw c.in_default.is at (least-of datagrams c.next_due.result c.next_due.ensures.first c.next_due.ensures.least) in
    let other = c.next_due-in_default in
    rw (← c.self.view_is)
    (none-in-front (map deadline datagrams) (map deadline streams) other.result front
    (least-of streams other.result other.ensures.first other.ensures.least))

pub returns-in_default-next_due : goal.returns-in_default-next_due
returns-in_default-next_due c =
    let datagrams = c.self.inside.datagrams.tickets in
    let streams = c.self.inside.streams.tickets in
    let front = rw c.in-Some.is at (least-of datagrams c.next_due.result c.next_due.ensures.first c.next_due.ensures.least) in
    let back =
    rw c.in_default-next_due.is at (least-of streams c.next_due-2.result c.next_due-2.ensures.first c.next_due-2.ensures.least) in
    rw (← c.self.view_is) (none-behind (map deadline datagrams) (map deadline streams) c.in-Some.datagram front back)

pub returns-then-datagram-stream : goal.returns-then-datagram-stream
returns-then-datagram-stream c =
    let datagrams = c.self.inside.datagrams.tickets in
    let streams = c.self.inside.streams.tickets in
    let front = rw c.in-Some.is at (least-of datagrams c.next_due.result c.next_due.ensures.first c.next_due.ensures.least) in
    let back = rw c.in-Some-next_due.is at (least-of streams c.next_due-2.result c.next_due-2.ensures.first c.next_due-2.ensures.least) in
    rw (← c.self.view_is)
    (least-in-front (map deadline datagrams) (map deadline streams) c.in-Some.datagram c.in-Some-next_due.stream front back
    c.if-datagram-stream.true)

pub returns-else-datagram-stream : goal.returns-else-datagram-stream
returns-else-datagram-stream c =
    let datagrams = c.self.inside.datagrams.tickets in
    let streams = c.self.inside.streams.tickets in
    let front = rw c.in-Some.is at (least-of datagrams c.next_due.result c.next_due.ensures.first c.next_due.ensures.least) in
    let back = rw c.in-Some-next_due.is at (least-of streams c.next_due-2.result c.next_due-2.ensures.first c.next_due-2.ensures.least) in
    let less = c.if-datagram-stream.false in
    rw (← c.self.view_is)
    (least-behind (map deadline datagrams) (map deadline streams) c.in-Some.datagram c.in-Some-next_due.stream front back
    (omega (arith, less)))
