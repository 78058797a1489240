use Rattle.std.proofs.Common.{rules}
use Rattle.sip_ping.proofs.Steps.{closed_as, looked_on, map_ok, refused_at, silent_at}
use Rattle.sip_ping.proofs.datagrams.round.Goals as goal

pub returns-then-now-sending : goal.returns-then-now-sending
returns-then-now-sending g c = λ first old asks.
    silent_at g.F.Flow.does c.args.sending.now first _ old c.now-now.result _ _ asks c.now-now.ensures (search rules)

pub returns-in-Ok : goal.returns-in-Ok
returns-in-Ok g c =
    map_ok c.hear.result _ _ c.hear.ensures
    (λ it then first old asks. then first c.now-now.result (search rules)
    (c.in-Ok.ensures.sent first (looked_on g.F.Flow.does c.args.sending.now first _ old c.now-now.result _ _ asks c.now-now.ensures)))

pub returns-in-Err : goal.returns-in-Err
returns-in-Err g c =
    closed_as c.refused.result c.in-Err.fault _ c.refused.ensures.closed c.refused.ensures.answer
    (λ is first old asks. refused_at g.F.Flow.does c.args.sending.now first _ _ is
    (c.in-Err.ensures.failed first (looked_on g.F.Flow.does c.args.sending.now first _ old c.now-now.result _ _ asks c.now-now.ensures)))
