use Rattle.std.proofs.Common.{rules}
use Rattle.sip_ping.proofs.Reading.{refused_before, sent_at, unsent_at}
use Rattle.sip_ping.proofs.Steps.{closed_as}
use Rattle.sip_ping.proofs.streams.send_once.Goals as goal

pub returns-then-now-sending : goal.returns-then-now-sending
returns-then-now-sending g c =
    unsent_at g.F.Flow.does c.args.sending.now c.args.flow.now c.now-now.result _ c.now-now.ensures (search rules)

pub returns-in-Ok : goal.returns-in-Ok
returns-in-Ok g c = (
  c.now-now.result,
  sent_at g.F.Flow.does c.args.sending.now c.args.flow.now c.now-now.result _ _ c.now-now.ensures
      (search rules) (search rules),
)

pub returns-in-Err : goal.returns-in-Err
returns-in-Err g c =
    closed_as c.refused.result c.in-Err.fault _ c.refused.ensures.closed c.refused.ensures.answer
    (λ is. refused_before g.F.Flow.does c.args.sending.now c.args.flow.now c.now-now.result c.in-Err.fault _ _
    c.now-now.ensures is (search rules))
