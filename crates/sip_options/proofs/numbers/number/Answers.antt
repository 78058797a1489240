use Rattle.std.proofs.Common.{◌≡◌, ◌<◌, None, IsTrue, length, sym, ◌∙◌, arith}
use Rattle.std.proofs.lemmas.Bool.Decides.{nat_tests}
use Rattle.ip_text.specs.Numbers.{decimal, decimal_within}
use Rattle.sip_options.proofs.NumberTexts.{number_made, numberless, number_white, large}
use Rattle.sip_options.proofs.numbers.number.Goals as goal

pub returns-then-is_empty-clause-none : goal.returns-then-is_empty-clause-none
returns-then-is_empty-clause-none c =
    let short : length c.cut-2.result.0.now ≡ 0 = grind (arith, nat_tests, c.is_empty.ensures, c.if-is_empty.true) in
    numberless c.args.value.now c.cut.result.0.now c.cut.result.1.now c.cut-2.result.0.now c.cut-2.result.1.now c.cut.ensures.joined
    c.cut.ensures.many c.cut.ensures.ends c.cut-2.ensures.joined c.cut-2.ensures.many c.cut-2.ensures.ends short

pub returns-then-not-is_white-clause-none : goal.returns-then-not-is_white-clause-none
returns-then-not-is_white-clause-none c = λ number is.
    let white = number_white c.args.value.now c.cut.result.0.now c.cut.result.1.now c.cut-2.result.0.now c.cut-2.result.1.now
    c.cut.ensures.joined c.cut.ensures.many c.cut.ensures.ends c.cut-2.ensures.joined c.cut-2.ensures.many c.cut-2.ensures.ends number is in
    let yes : IsTrue c.is_white.result = c.is_white.ensures.1 white in
    absurd (grind (arith, nat_tests, c.if-not-is_white.true, yes))

pub returns-in-None-clause-found : goal.returns-in-None-clause-found
returns-in-None-clause-found c =
    let some : 0 < length c.cut-2.result.0.now = grind (arith, nat_tests, c.is_empty.ensures, c.if-is_empty.false) in
    let yes : IsTrue c.is_white.result = grind (arith, nat_tests, c.if-not-is_white.false) in
    let over : decimal_within 65535 c.cut-2.result.0.now ≡ None = sym c.decimal.ensures ∙ c.in-None.is in (
      decimal c.cut-2.result.0.now,
      number_made c.args.value.now c.cut.result.0.now c.cut.result.1.now c.cut-2.result.0.now c.cut-2.result.1.now c.cut.ensures.joined
          c.cut.ensures.many c.cut.ensures.ends c.cut-2.ensures.joined c.cut-2.ensures.many c.cut-2.ensures.ends some
          (c.is_white.ensures.0 yes),
      large c.cut-2.result.0.now c.cut-2.ensures.many some over,
    )
