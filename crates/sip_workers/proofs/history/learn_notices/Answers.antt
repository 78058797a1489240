use Rattle.std.proofs.Common.{}
use Rattle.std.proofs.lemmas.List.Elements.{All-nil}
use mathlib.Core.List.{IsPrefix}
use Rattle.sip_workers.proofs.Learning.{learned-all, learned-more, told_by}
use Rattle.sip_workers.proofs.Storing.{stays-on, stays-same}
use Rattle.sip_workers.proofs.history.learn_notices.Goals as goal

pub notices-init : goal.notices-init
notices-init c = record {
  stays = c.requires.made_here;
  same = stays-same c.args.seat.now.seat;
  told = All-nil (λ it. IsPrefix (told_by it) c.args.seat.now.seat.seen);
}

pub notices-preserved : goal.notices-preserved
notices-preserved c = record {
  stays = c.learn.ensures.stays;
  same = stays-on c.args.seat.now.seat c.notices.seat.seat c.learn.new.seat.seat c.notices.invariant.same c.learn.ensures.goes_on
      c.learn.ensures.stores_nothing;
  told = learned-more told_by c.args.made.now c.notices.it-index c.notices.seat.seat.seen c.learn.new.seat.seat.seen
      c.it-item.result c.notices-test.true c.it-item.is c.learn.ensures.goes_on.seen c.learn.ensures.told
      c.notices.invariant.told;
}

pub returns-clause-told : goal.returns-clause-told
returns-clause-told c =
    learned-all told_by c.args.made.now c.notices.it-index c.notices.seat.seat.seen c.notices-test.false c.notices.invariant.told
