use Rattle.std.proofs.Common.{rules}
use Rattle.sip_ping.proofs.Reading.{final_front, looked_at, part_front, passed_front, passed_then, replied_then, silent_then, unreadable_front, unreadable_then}
use Rattle.sip_ping.proofs.Steps.{map_ok}
use Rattle.sip_ping.proofs.streams.read.Goals as goal

pub returns-then-now-sending : goal.returns-then-now-sending
returns-then-now-sending g c = λ first old asks.
    silent_then g.F.Flow.does c.args.sending.now first c.args.kept.now.items c.now-now.result _
    (looked_at g.F.Flow.does c.args.sending.now first _ old c.now-now.result _ _ asks c.now-now.ensures) (search rules)

pub returns-in-Final : goal.returns-in-Final
returns-in-Final g c = λ first old asks.
    replied_then g.F.Flow.does c.args.sending.now first c.args.kept.now.items c.now-now.result c.in-Final.status _
    (looked_at g.F.Flow.does c.args.sending.now first _ old c.now-now.result _ _ asks c.now-now.ensures)
    (final_front c.args.sending.now.request.now c.as_slice.result.now c.args.kept.now.items c.front_of.result (search rules)
    c.front_of.ensures c.in-Final.status (search rules))

pub returns-in_ok-kept-in-Passed : goal.returns-in_ok-kept-in-Passed
returns-in_ok-kept-in-Passed g c = λ first old asks. (
  c.now-now.result,
  passed_then g.F.Flow.does c.args.sending.now first c.args.kept.now.items
      c.in_ok-kept-in-Passed.field-0.items c.now-now.result _
      (looked_at g.F.Flow.does c.args.sending.now first _ old c.now-now.result _ _ asks c.now-now.ensures)
      (passed_front c.args.sending.now.request.now c.as_slice.result.now c.args.kept.now.items c.front_of.result (search rules)
      c.front_of.ensures c.in-Passed.rest c.in_ok-kept-in-Passed.field-0.items (search rules) (search rules)),
)

pub returns-in_ok-kept-in-Part : goal.returns-in_ok-kept-in-Part
returns-in_ok-kept-in-Part g c =
    map_ok c.read_more.result _ _ c.read_more.ensures
    (λ it then first old asks. then first c.args.kept.now.items c.now-now.result
    (looked_at g.F.Flow.does c.args.sending.now first _ old c.now-now.result _ _ asks c.now-now.ensures)
    (part_front c.args.sending.now.request.now c.as_slice.result.now c.args.kept.now.items c.front_of.result (search rules)
    c.front_of.ensures c.in-Part.rest c.in_ok-kept-in-Part.field-0.items (search rules) (search rules))
    (search rules))

pub returns-in-Unreadable : goal.returns-in-Unreadable
returns-in-Unreadable g c = λ first old asks.
    unreadable_then g.F.Flow.does c.args.sending.now first c.args.kept.now.items c.now-now.result _
    (looked_at g.F.Flow.does c.args.sending.now first _ old c.now-now.result _ _ asks c.now-now.ensures)
    (unreadable_front c.args.sending.now.request.now c.as_slice.result.now c.args.kept.now.items c.front_of.result (search rules)
    c.front_of.ensures (search rules))
