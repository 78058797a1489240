use Rattle.sip_locator.proofs.Gaining.{Progress}
use Rattle.sip_locator.proofs.locator.Locator.look_up_in_turn.Given as goal

abbrev pub invariant-loop-round : goal.invariant-loop-round
invariant-loop-round g l =
    g.B.AnswerBook.belongs l.book l.seat
    × Progress l.fn.self l.self (g.B.AnswerBook.shown l.fn.seat) (g.B.AnswerBook.shown l.seat) l.now l._round
