use Rattle.std.proofs.Common.{sym, ◌∙◌}
use Rattle.resolver_file.proofs.WordParts.{passes, stands}
use Rattle.resolver_file.proofs.words.blank_count.Goals as goal

pub returns-then-not-is_blank-clause-plain : goal.returns-then-not-is_blank-clause-plain
returns-then-not-is_blank-clause-plain c =
    stands c.args.text.now c.loop-at.at _ c.loop-at-test.true (sym c.is_blank.ensures ∙ c.if-not-is_blank.true)

pub loop-at-preserved : goal.loop-at-preserved
loop-at-preserved c =
    passes c.args.text.now c.loop-at.at c.loop-at-test.true c.loop-at.invariant (sym c.is_blank.ensures ∙ c.if-not-is_blank.false)
