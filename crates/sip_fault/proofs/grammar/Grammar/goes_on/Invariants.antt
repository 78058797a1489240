use Rattle.std.proofs.Common.{drop}
use Rattle.sip_fault.specs.Faults.{HasEndAmong}
use Rattle.sip_fault.specs.Readers as spec
use Rattle.sip_fault.proofs.grammar.Grammar.goes_on.Given as goal

abbrev pub invariant-loop-word : goal.invariant-loop-word
invariant-loop-word l = HasEndAmong (spec.Spells l.self) (spec.words_of l.self) l.tail l.front
    → HasEndAmong (spec.Spells l.self) (drop l.word-index (spec.words_of l.self)) l.tail l.front
