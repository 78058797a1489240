use Rattle.std.proofs.Common.{sym, ◌∙◌}
use Rattle.resolver_file.proofs.WordParts.{goes_on, stands}
use Rattle.resolver_file.proofs.words.word_length.Goals as goal

pub returns-then-is_blank-clause-stops : goal.returns-then-is_blank-clause-stops
returns-then-is_blank-clause-stops c = λ within.
    stands c.args.text.now c.loop-at.at _ c.loop-at-test.true (sym c.is_blank.ensures ∙ c.if-is_blank.true)

pub loop-at-preserved : goal.loop-at-preserved
loop-at-preserved c =
    goes_on c.args.text.now c.loop-at.at c.loop-at-test.true c.loop-at.invariant (sym c.is_blank.ensures ∙ c.if-is_blank.false)
