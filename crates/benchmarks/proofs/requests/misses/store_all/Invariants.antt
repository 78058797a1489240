use Rattle.benchmarks.proofs.requests.misses.store_all.Given as goal

abbrev pub invariant-questions : goal.invariant-questions
invariant-questions g l = g.B.AnswerBook.belongs l.book l.seat
