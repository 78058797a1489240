use Rattle.benchmarks.proofs.requests.slices.Given as goal

abbrev pub invariant-slices : goal.invariant-slices
invariant-slices g l = g.B.AnswerBook.belongs l.book l.seat
