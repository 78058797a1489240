use Rattle.std.proofs.Common.{rules}
use Rattle.sip_ping.specs.declared.sending.Sending.{Sending}
use Rattle.sip_ping.proofs.Schedules.{pings}
use Rattle.sip_ping.proofs.Steps.{begins_at, ended_at, goes_on}
use Rattle.sip_ping.proofs.datagrams.ping_by_datagrams.Goals as goal

pub rounds-init : goal.rounds-init
rounds-init g c =
    begins_at g.F.Flow.does (record { request = c.args.request; octets = c.as_slice.result; deadline = c.from.result })
    c.args.flow.now c.new-timer.result c.new-timer.ensures.due c.new-timer.ensures.wait

pub returns-in-Some-2 : goal.returns-in-Some-2
returns-in-Some-2 g c =
    let sending : Sending = record { request = c.args.request; octets = c.as_slice.result; deadline = c.from.result } in
    pings g.F.Flow.does c.args.request.now c.from.result c.args.flow.now c.in-Some-2.answer c.round.new.flow c.args.deadline
    (search rules)
    (ended_at g.F.Flow.does sending c.args.flow.now c.in_ok-answer.field-0 c.in-Some-2.answer c.round.new.timer c.round.new.flow
    c.in-Some-2.is (c.in_ok-answer.ensures c.args.flow.now c.rounds.invariant.0 c.rounds.invariant.1))

pub rounds-preserved : goal.rounds-preserved
rounds-preserved g c =
    let sending : Sending = record { request = c.args.request; octets = c.as_slice.result; deadline = c.from.result } in
    goes_on g.F.Flow.does sending c.args.flow.now c.in_ok-answer.field-0 c.round.new.timer c.round.new.flow c.in_default.is
    (c.in_ok-answer.ensures c.args.flow.now c.rounds.invariant.0 c.rounds.invariant.1)
