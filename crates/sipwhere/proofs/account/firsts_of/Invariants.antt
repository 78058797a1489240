use Rattle.answer_cache.specs.Seats.{GoesOn, StoresNothing}
use Rattle.sipwhere.specs.Accounts.{AreDraws}
use Rattle.sipwhere.proofs.account.firsts_of.Given as goal

abbrev pub invariant-draws : goal.invariant-draws
invariant-draws g l = record {
  stays : g.B.AnswerBook.belongs l.at.book.now l.seat;
  goes_on : GoesOn (g.B.AnswerBook.shown l.fn.seat) (g.B.AnswerBook.shown l.seat);
  stores_nothing : StoresNothing (g.B.AnswerBook.shown l.fn.seat) (g.B.AnswerBook.shown l.seat);
  firsts : AreDraws l.request l.settings l.at.now (g.B.AnswerBook.shown l.fn.seat).seen (g.B.AnswerBook.shown l.seat).seen l.draw
      l.firsts.items;
}
