use Rattle.std.proofs.Common.{}
use Rattle.std.proofs.lemmas.List.Elements.{All-nil}
use mathlib.Core.List.{IsPrefix}
use Rattle.sip_workers.proofs.Learning.{learned-all, learned-more, seen_by}
use Rattle.sip_workers.proofs.Storing.{stays-on, stays-same}
use Rattle.sip_workers.proofs.history.learn_seats.Goals as goal

pub seats-init : goal.seats-init
seats-init c = record {
  stays = c.requires.made_here;
  same = stays-same c.args.seat.now.seat;
  told = All-nil (λ it. IsPrefix (seen_by it) c.args.seat.now.seat.seen);
}

pub seats-preserved : goal.seats-preserved
seats-preserved c = record {
  stays = c.learn-in-seats.ensures.stays;
  same = stays-on c.args.seat.now.seat c.seats.seat.seat c.learn-in-seats.new.seat.seat c.seats.invariant.same
      c.learn-in-seats.ensures.goes_on c.learn-in-seats.ensures.stores_nothing;
  told = learned-more seen_by c.args.others.now c.seats.it-index c.seats.seat.seat.seen c.learn-in-seats.new.seat.seat.seen
      c.it-item.result c.seats-test.true c.it-item.is c.learn-in-seats.ensures.goes_on.seen
      (rw c.notice.ensures.1 at c.learn-in-seats.ensures.told) c.seats.invariant.told;
}

pub returns-clause-told : goal.returns-clause-told
returns-clause-told c =
    learned-all seen_by c.args.others.now c.seats.it-index c.seats.seat.seat.seen c.seats-test.false c.seats.invariant.told
