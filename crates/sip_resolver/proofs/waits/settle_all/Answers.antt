use Rattle.sip_resolver.proofs.Inside.{waiting-for-out}
use Rattle.sip_resolver.proofs.Settling.{fewer-wait, settling-not, settling-on, settling-over}
use Rattle.sip_resolver.proofs.Weighing.{same-not, same-through, waiting-for-back}
use Rattle.sip_resolver.specs.Waits.{MayEnd, MayGoOn}
use Rattle.sip_resolver.proofs.waits.settle_all.Goals as goal

pub waits-init : goal.waits-init
waits-init g c = record {
  stand = λ seat known it. it;
  same = same-not c.args.requests.now;
  settling = settling-not c.args.id (MayGoOn c.args.end.now) (MayEnd c.args.end.now) c.args.requests.now;
}

pub waits-preserved : goal.waits-preserved
waits-preserved g c =
    let old = c.args.requests.now in
    let now = c.waits.requests in
    let middle = c.next_waiting_for.new.self in
    let new = c.settle.new.requests in
    record {
      stand = λ seat known it.
          let both = waiting-for-out _ _ seat c.args.id now middle c.in-Some.task c.in-Some.ensures
          (c.waits.invariant.stand seat known it) in
          c.settle.ensures.stand seat known both.1.0 both.1.1 both.0;
      same = same-through old now new c.waits.invariant.same
          (waiting-for-back c.args.id now middle new c.in-Some.task c.in-Some.ensures c.settle.ensures.back);
      settling = settling-on c.args.id (MayGoOn c.args.end.now) (MayEnd c.args.end.now) old now middle new c.in-Some.task
          c.waits.invariant.settling c.in-Some.ensures c.settle.ensures.settles;
    }

pub waits-smaller : goal.waits-smaller
waits-smaller g c =
    fewer-wait (MayGoOn c.args.end.now) (MayEnd c.args.end.now) c.args.id c.in-Some.task c.waits.requests
    c.next_waiting_for.new.self c.settle.new.requests c.in-Some.ensures c.settle.ensures.settles

pub returns-clause-stand : goal.returns-clause-stand
returns-clause-stand g c = rw c.in_default.ensures.1 c.waits.invariant.stand

pub returns-clause-settles : goal.returns-clause-settles
returns-clause-settles g c =
    rw c.in_default.ensures.1
    (settling-over c.args.id (MayGoOn c.args.end.now) (MayEnd c.args.end.now) c.args.requests.now c.waits.requests
    c.waits.invariant.settling c.in_default.ensures.0)
