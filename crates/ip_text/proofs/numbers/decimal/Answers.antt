use Rattle.std.proofs.Common.{refl, sym, ◌∙◌, arith, rules}
use Rattle.ip_text.proofs.Digits.{large_decimal, more_decimal}
use Rattle.ip_text.proofs.numbers.decimal.Goals as goal

pub returns-then-number-from : goal.returns-then-number-from
returns-then-number-from c =
    large_decimal c.args.limit c.args.text.now c.loop-octet.octet-index c.loop-octet.number c.loop-octet.invariant
    c.loop-octet-test.true _ refl (search rules) (omega arith)

pub loop-octet-preserved : goal.loop-octet-preserved
loop-octet-preserved c =
    more_decimal c.args.limit c.args.text.now c.loop-octet.octet-index c.loop-octet.number c.loop-octet.invariant c.loop-octet-test.true
    (sym c.is_ascii_digit.ensures.value ∙ c.if-not-is_ascii_digit.false) c.from.result c.from.ensures (omega arith)
