use Rattle.std.proofs.Common.{◌≡◌, ◌<◌, ℕ, List, [], Bor, false, true, add-one, get_or, length, refl, sym}
use Rattle.sip_fault.specs.Faults.{HasEnd}
use Rattle.sip_fault.specs.Readers as spec
use Rattle.sip_fault.proofs.Ends.{five, read_at, found_at, behind_word, none_left}
use Rattle.sip_fault.proofs.grammar.Grammar.goes_on.Goals as goal

pub returns-then-has_end : goal.returns-then-has_end
returns-then-has_end c =
    let none : Bor (List ℕ) = record { ref_ptr = (0, 0); now = [] } in
    let word : (get_or c.words-word-items.result c.loop-word.word-index none).now
    ≡ get_or (spec.words_of c.args.self) c.loop-word.word-index [] =
    rw c.words-word-items.ensures at (sym (read_at c.words-word-items.result c.loop-word.word-index none)) in
    let less : c.loop-word.word-index < length (spec.words_of c.args.self) = rw (five c.args.self) c.loop-word-test.true in (
      (λ t. rw (← c.tail-tail.ensures)
          (found_at (spec.Spells c.args.self) c.tail-tail.result.now c.args.front.now (spec.words_of c.args.self) c.loop-word.word-index
          less (rw word at (c.has_end.ensures.0 c.if-has_end.true)))),
      (λ among. refl),
    )

pub loop-word-preserved : goal.loop-word-preserved
loop-word-preserved c = λ among.
    let none : Bor (List ℕ) = record { ref_ptr = (0, 0); now = [] } in
    let word : (get_or c.words-word-items.result c.loop-word.word-index none).now
    ≡ get_or (spec.words_of c.args.self) c.loop-word.word-index [] =
    rw c.words-word-items.ensures at (sym (read_at c.words-word-items.result c.loop-word.word-index none)) in
    let less : c.loop-word.word-index < length (spec.words_of c.args.self) = rw (five c.args.self) c.loop-word-test.true in
    let not_it : HasEnd (spec.Spells c.args.self) (get_or c.words-word-items.result c.loop-word.word-index none).now
    c.tail-tail.result.now c.args.front.now → ⊥ =
    λ has. let no : false ≡ true = rw c.if-has_end.false at (c.has_end.ensures.1 has) in cc in
    rw add-one (behind_word (spec.Spells c.args.self) c.tail-tail.result.now c.args.front.now (spec.words_of c.args.self)
    c.loop-word.word-index less (rw word at not_it) (c.loop-word.invariant among))

pub returns : goal.returns
returns c = (
  (λ t. absurd cc),
  (λ goes_on.
      absurd (none_left (spec.Spells c.args.self) c.tail-tail.result.now c.args.front.now (spec.words_of c.args.self)
      c.loop-word.word-index (rw (five c.args.self) c.loop-word-test.false)
      (c.loop-word.invariant (rw c.tail-tail.ensures goes_on)))),
)
