use Rattle.std.proofs.Common.{ℕ, ◌≤◌, ◌++◌, drop, length}
use Rattle.sip_fault.specs.Readers as spec
use Rattle.sip_fault.proofs.grammar.Grammar.has_end.Given as goal

abbrev pub invariant-loop-dropped : goal.invariant-loop-dropped
invariant-loop-dropped l = (dropped : ℕ) → l.dropped ≤ dropped → dropped ≤ length l.word
    → spec.Spells l.self (l.front ++ (drop dropped l.word ++ l.tail)) → ⊥
