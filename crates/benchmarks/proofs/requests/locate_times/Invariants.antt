use Rattle.benchmarks.proofs.requests.locate_times.Given as goal

abbrev pub invariant-rounds : goal.invariant-rounds
invariant-rounds g l = g.B.AnswerBook.belongs l.book l.seat
