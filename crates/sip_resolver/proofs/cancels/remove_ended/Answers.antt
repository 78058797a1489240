use Rattle.std.proofs.Common.{not, nat_eq, ap, refl, ◌∙◌}
use Rattle.sip_resolver.proofs.Cancelling.{only-ended}
use Rattle.sip_resolver.proofs.Circling.{circled-early, circled-not, circled-on, circled-over}
use Rattle.sip_resolver.specs.Outcomes.{Ended}
use Rattle.sip_resolver.specs.Requests.{RequestsView, number_of_ended, requests_of}
use Rattle.sip_resolver.proofs.cancels.remove_ended.Goals as goal

pub ended-init : goal.ended-init
ended-init g c = record {
  circled = circled-not (λ (it : Ended). not (nat_eq (number_of_ended it) c.args.number)) c.args.requests.now.ended;
  others = refl;
}

pub ended-preserved : goal.ended-preserved
ended-preserved g c =
    let first = c.args.requests.now in
    let old = c.ended.requests in
    let middle = c.next_ended.new.self in
    let new = c.put_other.new.requests in
    let less = rw c.ended_len-ended-end.ensures at c.ended-test.true in
    record {
      circled = circled-on (λ (it : Ended). not (nat_eq (number_of_ended it) c.args.number)) first.ended old.ended middle.ended
          new.ended c.in-Some.ended c.ended._ended c.ended.invariant.circled
          c.in-Some.ensures.first less (ap (λ (v : RequestsView). v.ended) c.put_other.ensures);
      others = only-ended c.args.number first old middle new c.in-Some.ended c.ended.invariant.others c.in-Some.ensures c.put_other.ensures;
    }

pub returns-in-None : goal.returns-in-None
returns-in-None g c =
    let less = rw c.ended_len-ended-end.ensures at c.ended-test.true in
    absurd
    (circled-early (λ (it : Ended). not (nat_eq (number_of_ended it) c.args.number)) c.args.requests.now.ended
    c.ended.requests.ended c.ended._ended c.ended.invariant.circled c.in-None.ensures.0 less)

pub returns : goal.returns
returns g c =
    let first = c.args.requests.now in
    let all = rw c.ended_len-ended-end.ensures at c.ended-test.false in
    c.ended.invariant.others
    ∙ ap (λ l. requests_of first.ready first.held first.waiting l first.limit)
    (circled-over (λ (it : Ended). not (nat_eq (number_of_ended it) c.args.number)) first.ended c.ended.requests.ended
    c.ended._ended c.ended.invariant.circled all)
