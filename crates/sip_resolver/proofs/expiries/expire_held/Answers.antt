use Rattle.std.proofs.Common.{ap, refl}
use Rattle.sip_resolver.proofs.Circling.{circled-early, circled-not, circled-on}
use Rattle.sip_resolver.proofs.Expiring.{others-held, over-held, turns-not, turns-too}
use Rattle.sip_resolver.proofs.Inside.{held-out}
use Rattle.sip_resolver.proofs.Weighing.{held-back}
use Rattle.sip_resolver.specs.Expiries.{has_time}
use Rattle.sip_resolver.specs.Requests.{RequestsView}
use Rattle.sip_resolver.proofs.expiries.expire_held.Goals as goal

pub tasks-init : goal.tasks-init
tasks-init g c = record {
  stays = c.requires.made_here;
  turns = turns-not _ _ c.args.now (g.B.AnswerBook.shown c.args.seat.now) c.args.requests.now c.requires.stand;
  circled = circled-not (has_time c.args.now) c.args.requests.now.held;
  others = refl;
}

pub turn_held-requires-clause-stand : goal.turn_held-requires-clause-stand
turn_held-requires-clause-stand g c =
    (held-out _ _ (g.B.AnswerBook.shown c.tasks.seat) c.tasks.requests c.next_held.new.self c.in-Some.task c.in-Some.ensures
    c.tasks.invariant.turns.stand).0

pub turn_held-requires-clause-counted : goal.turn_held-requires-clause-counted
turn_held-requires-clause-counted g c =
    (held-out _ _ (g.B.AnswerBook.shown c.tasks.seat) c.tasks.requests c.next_held.new.self c.in-Some.task c.in-Some.ensures
    c.tasks.invariant.turns.stand).1

pub tasks-preserved : goal.tasks-preserved
tasks-preserved g c =
    let before = g.B.AnswerBook.shown c.args.seat.now in
    let seat = g.B.AnswerBook.shown c.tasks.seat in
    let after = g.B.AnswerBook.shown c.turn_held.new.seat in
    let first = c.args.requests.now in
    let old = c.tasks.requests in
    let middle = c.next_held.new.self in
    let new = c.turn_held.new.requests in
    let turn = c.turn_held.ensures in
    let less = rw c.held_len-task-end.ensures at c.tasks-test.true in
    record {
      stays = turn.stays;
      turns = turns-too _ _ c.args.now before seat after first old new middle.ended c.tasks.invariant.turns
          (ap (λ (v : RequestsView). v.ended) c.in-Some.ensures.others)
          (held-back old middle new c.in-Some.task c.in-Some.ensures turn.back) turn.goes_on turn.stores_nothing turn.stand turn.ends;
      circled = circled-on (has_time c.args.now) first.held old.held middle.held new.held c.in-Some.task c.tasks._task
          c.tasks.invariant.circled c.in-Some.ensures.first less (ap (λ (v : RequestsView). v.held) turn.others);
      others = others-held c.args.now first old middle new c.in-Some.task c.tasks.invariant.others c.in-Some.ensures turn.others;
    }

pub returns-in-None-clause-others : goal.returns-in-None-clause-others
returns-in-None-clause-others g c =
    let less = rw c.held_len-task-end.ensures at c.tasks-test.true in
    absurd
    (circled-early (has_time c.args.now) c.args.requests.now.held c.tasks.requests.held c.tasks._task c.tasks.invariant.circled
    c.in-None.ensures.0 less)

pub returns-clause-others : goal.returns-clause-others
returns-clause-others g c =
    let all = rw c.held_len-task-end.ensures at c.tasks-test.false in
    over-held c.args.now c.args.requests.now c.tasks.requests c.tasks._task c.tasks.invariant.circled c.tasks.invariant.others all
