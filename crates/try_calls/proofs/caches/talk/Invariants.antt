use Rattle.try_calls.proofs.caches.talk.Given as goal

abbrev pub invariant-lines : goal.invariant-lines
invariant-lines g l = g.B.AnswerBook.belongs l.book l.seat
