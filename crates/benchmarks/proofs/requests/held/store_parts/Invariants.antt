use Rattle.benchmarks.proofs.requests.held.store_parts.Given as goal

abbrev pub invariant-domains : goal.invariant-domains
invariant-domains g l = g.B.AnswerBook.belongs l.book l.seat
