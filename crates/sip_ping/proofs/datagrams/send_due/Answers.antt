use Rattle.std.proofs.Common.{rules}
use Rattle.sip_ping.proofs.Steps.{sent_on}
use Rattle.sip_ping.proofs.datagrams.send_due.Goals as goal

pub returns-clause-sent : goal.returns-clause-sent
returns-clause-sent g c = λ first asks.
    sent_on g.F.Flow.does c.args.sending.now first _ _ c.args.now _ _ asks (search rules) c.requires.early
    (search rules) c.set.ensures.wait c.set.ensures.due
