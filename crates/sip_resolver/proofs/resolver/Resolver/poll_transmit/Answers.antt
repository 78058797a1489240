use Rattle.std.proofs.Common.{None, Some, refl}
use Rattle.sip_resolver.proofs.Dealing.{spaced}
use Rattle.sip_resolver.proofs.Expiring.{time-after, time-still}
use Rattle.sip_resolver.proofs.Idling.{turn-sent}
use Rattle.sip_resolver.proofs.Letting.{spaced-expired}
use Rattle.sip_resolver.proofs.Sending.{sends-octets, sends-some}
use Rattle.sip_resolver.proofs.Standing.{goes-through, nothing-through}
use Rattle.sip_resolver.proofs.Weighing.{same-through}
use Rattle.sip_resolver.proofs.resolver.Resolver.poll_transmit.Goals as goal

pub returns : goal.returns
returns g c =
    let told = rw (← c.self.view_is) at c.in_ok-id.ensures in (
      (
        refl,
        (λ it. tt),
        record {
          middle = c.expire.new.self;
          expires = c.expire.ensures.expires;
          in_time = time-still c.args.now c.expire.new.self.requests c.self.inside.requests _
              (time-after c.args.now c.args.self.now.requests c.expire.new.self.requests c.expire.ensures.expires.requests) told.same
              told.ends;
          stand = told.stand;
          same = same-through c.args.self.now.requests c.expire.new.self.requests c.self.inside.requests
              c.expire.ensures.expires.same told.same;
          ends = told.ends;
          sends = sends-octets c.args.now c.args.asked c.in_ok-id.field-0 c.self.inside.requests.waiting c.expire.new.self.questions
              c.self.inside.questions c.transmit_of.result told.sends c.transmit_of.ensures;
          spaced = spaced-expired c.args.now c.args.asked c.args.self.now c.expire.new.self c.self.inside.questions
              c.expire.ensures.expires (spaced c.args.now c.args.asked c.self.inside.requests.waiting c.expire.new.self.questions
              c.self.inside.questions
              (Some c.in_ok-id.field-0) c.law_stand_in_order.ensures.scheduled told.sends);
          turn = turn-sent g.I.Ids.draws c.args.asked c.in_ok-id.field-0 c.expire.new.self.requests c.self.inside.requests
              c.self.inside.questions c.transmit_of.result c.transmit_of.ensures
              (sends-some c.args.now c.args.asked c.in_ok-id.field-0 c.self.inside.requests.waiting c.expire.new.self.questions
              c.self.inside.questions c.transmit_of.result told.sends c.transmit_of.ensures) told.turn;
          idle = sends-some c.args.now c.args.asked c.in_ok-id.field-0 c.self.inside.requests.waiting c.expire.new.self.questions
              c.self.inside.questions c.transmit_of.result told.sends c.transmit_of.ensures _;
          awaited = λ it. told.awaited (c.expire.ensures.awaited it);
          distinct = c.law_stand_in_order.ensures.distinct;
          scheduled = c.law_stand_in_order.ensures.scheduled;
        },
      ),
      record {
        stays = c.next_transmit-id.ensures.stays;
        goes_on = goes-through _ _ _ c.expire.ensures.goes_on c.next_transmit-id.ensures.goes_on;
        stores_nothing = nothing-through _ _ _ c.expire.ensures.stores_nothing c.next_transmit-id.ensures.stores_nothing;
        polls = tt;
      },
    )

pub returns-in_err-id : goal.returns-in_err-id
returns-in_err-id g c =
    let told = rw (← c.self.view_is) at c.in_err-id.ensures in
    rw c.from_residual.ensures (
      (
        refl,
        (λ it. tt),
        record {
          middle = c.expire.new.self;
          expires = c.expire.ensures.expires;
          in_time = time-still c.args.now c.expire.new.self.requests c.self.inside.requests _
              (time-after c.args.now c.args.self.now.requests c.expire.new.self.requests c.expire.ensures.expires.requests) told.same
              told.ends;
          stand = told.stand;
          same = same-through c.args.self.now.requests c.expire.new.self.requests c.self.inside.requests
              c.expire.ensures.expires.same told.same;
          ends = told.ends;
          sends = told.sends;
          spaced = spaced-expired c.args.now c.args.asked c.args.self.now c.expire.new.self c.self.inside.questions
              c.expire.ensures.expires (spaced c.args.now c.args.asked c.self.inside.requests.waiting c.expire.new.self.questions
              c.self.inside.questions None
              c.law_stand_in_order.ensures.scheduled told.sends);
          turn = told.turn;
          idle = told.idle;
          awaited = λ it. told.awaited (c.expire.ensures.awaited it);
          distinct = c.law_stand_in_order.ensures.distinct;
          scheduled = c.law_stand_in_order.ensures.scheduled;
        },
      ),
      record {
        stays = c.next_transmit-id.ensures.stays;
        goes_on = goes-through _ _ _ c.expire.ensures.goes_on c.next_transmit-id.ensures.goes_on;
        stores_nothing = nothing-through _ _ _ c.expire.ensures.stores_nothing c.next_transmit-id.ensures.stores_nothing;
        polls = tt;
      },
    )
