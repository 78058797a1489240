use Rattle.sipwhere.specs.Accounts.{more, none}
use Rattle.sipwhere.proofs.Accounts.{draw-within, draws-within}
use Rattle.sipwhere.proofs.Quiet.{goes-not, goes-through, nothing-not, nothing-through}
use Rattle.sipwhere.proofs.account.firsts_of.Goals as goal

pub draws-init : goal.draws-init
draws-init g c =
    let seat = g.B.AnswerBook.shown c.args.seat.now in
    record {
      stays = c.requires.made_here;
      goes_on = goes-not seat;
      stores_nothing = nothing-not seat;
      firsts = rw c.new-firsts.ensures.items none;
    }

pub draws-preserved : goal.draws-preserved
draws-preserved g c =
    let was = c.draws.invariant in
    let on = c.draw_once.ensures.goes_on in
    let end = goes-not (g.B.AnswerBook.shown c.draw_once.new.seat) in
    let start = goes-not (g.B.AnswerBook.shown c.args.seat.now) in
    record {
      stays = c.draw_once.ensures.stays;
      goes_on = goes-through _ _ _ was.goes_on on;
      stores_nothing = nothing-through _ _ _ was.stores_nothing c.draw_once.ensures.stores_nothing;
      firsts = more _ (draws-within _ _ _ _ _ _ _ start.seen on.seen _ _ was.firsts)
          (draw-within _ _ _ _ _ _ _ was.goes_on.seen end.seen _ _ _ c.in_ok-draw_once.ensures.draws);
    }

pub returns-in_err-draw_once-clause-goes_on : goal.returns-in_err-draw_once-clause-goes_on
returns-in_err-draw_once-clause-goes_on g c = goes-through _ _ _ c.draws.invariant.goes_on c.draw_once.ensures.goes_on
