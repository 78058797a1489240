use Rattle.std.proofs.Common.{◌≡◌, ◌<◌, true, false, length, arith}
use Rattle.std.proofs.lemmas.Bool.Decides.{nat_tests}
use Rattle.sip_options.proofs.NumberTexts.{one_behind, cseq_made, cseq_method, cseq_apart}
use Rattle.sip_options.proofs.numbers.is_options_cseq.Goals as goal

pub returns-then-not-is_empty : goal.returns-then-not-is_empty
returns-then-not-is_empty c =
    let value = c.args.value.now in
    let some : 0 < length c.cut-in-Some.result.0.now = grind (arith, nat_tests, c.is_empty.ensures, c.if-not-is_empty.true) in (
      λ method. cseq_made value c.cut.result.0.now c.cut.result.1.now c.cut-2.result.0.now c.cut-2.result.1.now c.cut.ensures.joined
          c.cut.ensures.many c.cut.ensures.ends c.cut-2.ensures.joined c.cut-2.ensures.many c.cut-2.ensures.ends c.in-Some.behind.now
          c.cut-in-Some.result.0.now c.cut-in-Some.result.1.now c.in-Some.ensures.found c.cut-in-Some.ensures.joined
          c.cut-in-Some.ensures.many c.cut-in-Some.ensures.ends some (c.is_method.ensures.0 method),
      λ is. c.is_method.ensures.1
          (cseq_method value c.cut.result.0.now c.cut.result.1.now c.cut-2.result.0.now c.cut-2.result.1.now c.cut.ensures.joined
          c.cut.ensures.many c.cut.ensures.ends c.cut-2.ensures.joined c.cut-2.ensures.many c.cut-2.ensures.ends c.in-Some.behind.now
          c.cut-in-Some.result.0.now c.cut-in-Some.result.1.now c.in-Some.ensures.found c.cut-in-Some.ensures.joined
          c.cut-in-Some.ensures.many c.cut-in-Some.ensures.ends is),
    )

pub returns-else-not-is_empty : goal.returns-else-not-is_empty
returns-else-not-is_empty c =
    let value = c.args.value.now in
    let short : length c.cut-in-Some.result.0.now ≡ 0 = grind (arith, nat_tests, c.is_empty.ensures, c.if-not-is_empty.false) in (
      λ no. absurd (grind (arith, nat_tests, c.if-not-is_empty.false, no)),
      λ is. absurd
          (cseq_apart value c.cut.result.0.now c.cut.result.1.now c.cut-2.result.0.now c.cut-2.result.1.now c.cut.ensures.joined
          c.cut.ensures.many c.cut.ensures.ends c.cut-2.ensures.joined c.cut-2.ensures.many c.cut-2.ensures.ends c.in-Some.behind.now
          c.cut-in-Some.result.0.now c.cut-in-Some.result.1.now c.in-Some.ensures.found c.cut-in-Some.ensures.joined
          c.cut-in-Some.ensures.many c.cut-in-Some.ensures.ends is short),
    )

pub returns-in-None : goal.returns-in-None
returns-in-None c =
    let value = c.args.value.now in (
      λ no. absurd (let differ : false ≡ true = no in cc),
      λ is. absurd (c.in-None.ensures.none _
          (one_behind value c.cut.result.0.now c.cut.result.1.now c.cut-2.result.0.now c.cut-2.result.1.now c.cut.ensures.joined
          c.cut.ensures.many c.cut.ensures.ends c.cut-2.ensures.joined c.cut-2.ensures.many c.cut-2.ensures.ends is)),
    )
