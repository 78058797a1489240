use Rattle.benchmarks.proofs.requests.books.fill.Given as goal

abbrev pub invariant-known : goal.invariant-known
invariant-known g l = g.B.AnswerBook.belongs l.book l.seat
