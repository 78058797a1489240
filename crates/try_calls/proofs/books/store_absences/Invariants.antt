use Rattle.try_calls.proofs.books.store_absences.Given as goal

abbrev pub invariant-lives : goal.invariant-lives
invariant-lives g l = g.B.AnswerBook.belongs l.book l.seat
