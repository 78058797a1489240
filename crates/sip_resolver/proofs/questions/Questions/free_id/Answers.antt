use Rattle.std.proofs.Common.{arith}
use Rattle.sip_resolver.proofs.Idling.{none-out}
use Rattle.sip_resolver.specs.Idle.{begun, further}
use Rattle.sip_resolver.proofs.questions.Questions.free_id.Goals as goal

pub draws-init : goal.draws-init
draws-init g c = begun

pub draws-preserved : goal.draws-preserved
draws-preserved g c = further _ _ _ _ c.draws.invariant c.draw-id.ensures (c.is_out.ensures.0 c.if-not-is_out.false)

pub returns-then-not-is_out-clause-datagrams : goal.returns-then-not-is_out-clause-datagrams
returns-then-not-is_out-clause-datagrams g c =
    (none-out c.draw-id.result c.args.self.now
    (λ out. let yes = c.is_out.ensures.1 out in let no = c.if-not-is_out.true in cc)).0

pub returns-then-not-is_out-clause-streams : goal.returns-then-not-is_out-clause-streams
returns-then-not-is_out-clause-streams g c =
    (none-out c.draw-id.result c.args.self.now
    (λ out. let yes = c.is_out.ensures.1 out in let no = c.if-not-is_out.true in cc)).1

pub returns-clause-taken : goal.returns-clause-taken
returns-clause-taken g c =
    let few = c.law_stands_in_order.ensures.few in
    let few-too = c.law_stands_in_order-2.ensures.few in
    let limit = c.self.invariant.bounded.few_datagrams in
    let limit-too = c.self.invariant.bounded.few_streams in
    let all = c.draws-test.false in
    record {
      first = c.args.ids.now;
      last = c.draws.ids;
      count = c.draws._draw;
      drawn = c.draws.invariant;
      many = rw (← c.self.view_is) (omega (arith, few, few-too, limit, limit-too, all));
    }
