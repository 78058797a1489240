use Rattle.std.proofs.Common.{rules}
use Rattle.sip_ping.proofs.Reading.{read_then, refused_then, waited_then}
use Rattle.sip_ping.proofs.Steps.{closed_as}
use Rattle.sip_ping.proofs.streams.read_more.Goals as goal

pub returns-in_ok-extend_from_slice-in-Octets : goal.returns-in_ok-extend_from_slice-in-Octets
returns-in_ok-extend_from_slice-in-Octets g c = λ first all time asks is within. (
  time,
  read_then g.F.Flow.does c.args.sending.now first all c.args.kept.now.items c.in-Octets.octets.items
      c.extend_from_slice.new.self.items time c.args.most _ _ asks is within (search rules) (search rules),
)

pub returns-in-Nothing : goal.returns-in-Nothing
returns-in-Nothing g c = λ first all time asks is within. (
  time,
  waited_then g.F.Flow.does c.args.sending.now first all c.args.kept.now.items time c.args.most _ _ asks is within
      (search rules),
)

pub returns-in-Failed : goal.returns-in-Failed
returns-in-Failed g c =
    closed_as c.refused.result c.in-Failed.fault _ c.refused.ensures.closed c.refused.ensures.answer
    (λ is first all time asks part within. refused_then g.F.Flow.does c.args.sending.now first all time c.in-Failed.fault _ _ asks
    is (search rules))
