use Rattle.std.proofs.Common.{◌≡◌, false, true, [], length, ap, arith}
use Rattle.std.proofs.lemmas.Bool.Decides.{nat_tests}
use Rattle.std.proofs.lemmas.List.{nil_from_length}
use Rattle.sip_options.proofs.ViaParams.{value_made, value_word}
use Rattle.sip_options.proofs.WordTexts.{white_word_rest}
use Rattle.sip_options.proofs.via.is_branch_value.Goals as goal

pub returns-in-Some : goal.returns-in-Some
returns-in-Some c =
    let branch = c.args.branch.now in
    let text = c.args.text.now in
    let rest = c.in-Some.rest.now in
    let word = c.in-Some.ensures.found in (
      λ empty.
          let size : length rest ≡ 0 = grind (arith, nat_tests, c.is_empty.ensures, empty) in
          value_made branch text rest word (nil_from_length rest size),
      λ is.
          let nil = white_word_rest branch c.requires text rest [] word (value_word branch text is) in
          let size = ap length nil in
          grind (arith, nat_tests, c.is_empty.ensures, size),
    )

pub returns-in-None : goal.returns-in-None
returns-in-None c = (
  λ no. absurd (let differ : false ≡ true = no in cc),
  λ is. absurd (c.in-None.ensures.none [] (value_word c.args.branch.now c.args.text.now is)),
)
