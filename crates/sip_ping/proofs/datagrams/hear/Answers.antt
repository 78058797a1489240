use Rattle.std.proofs.Common.{rules}
use Rattle.sip_ping.proofs.Steps.{closed_as, fails_at, heard_other, passed_on, refused_at, replied_at, slowed_on, waited_on}
use Rattle.sip_ping.proofs.datagrams.hear.Goals as goal

pub returns-in-Final : goal.returns-in-Final
returns-in-Final g c = λ first time within asks.
    replied_at g.F.Flow.does c.args.sending.now first c.args.timer.now time c.args.most c.in-Final.status c.now-after.result
    c.in-Octets.octets.items _ c.receive.new.self _ asks within
    (search rules) (search rules) (search rules)

pub returns-in-Provisional : goal.returns-in-Provisional
returns-in-Provisional g c = λ first time within asks. (
  time,
  slowed_on g.F.Flow.does c.args.sending.now first _ _ time c.args.most
      c.in-Octets.octets.items _ _ asks within (search rules) (search rules)
      c.slow_down.ensures.due c.slow_down.ensures.wait,
)

pub returns-in-Octets : goal.returns-in-Octets
returns-in-Octets g c = λ first time within asks.
    let other = heard_other c.args.sending.now.request.now c.deref.result.now c.in-Octets.octets.items c.judged.result c.in-Other.is
    (search rules) c.judged.ensures in (
      time,
      passed_on g.F.Flow.does c.args.sending.now first _ time c.args.most
          c.in-Octets.octets.items _ _ asks within (search rules) other,
    )

pub returns-in-Nothing : goal.returns-in-Nothing
returns-in-Nothing g c = λ first time within asks. (
  time,
  waited_on g.F.Flow.does c.args.sending.now first _ time c.args.most _ _ asks within (search rules),
)

pub returns : goal.returns
returns g c =
    closed_as c.refused.result c.in-Failed.fault _ c.refused.ensures.closed c.refused.ensures.answer
    (λ is first time within asks. refused_at g.F.Flow.does c.args.sending.now first _ _ is
    (fails_at g.F.Flow.does c.args.sending.now first _ time c.in-Failed.fault _ _ asks (search rules)))
