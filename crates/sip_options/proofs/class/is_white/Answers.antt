use Rattle.std.proofs.Common.{◌≡◌, length, ap, arith}
use Rattle.std.proofs.lemmas.Bool.Decides.{nat_tests}
use Rattle.std.proofs.lemmas.List.{nil_from_length}
use Rattle.sip_options.specs.Texts.{is_white}
use Rattle.sip_options.proofs.Octets.{whole_cut}
use Rattle.sip_options.proofs.WordTexts.{white_read}
use Rattle.sip_options.proofs.class.is_white.Goals as goal

pub returns : goal.returns
returns c =
    let cut = c.cut.ensures in (
      λ empty.
          let size : length c.cut.result.1.now ≡ 0 = grind (arith, nat_tests, c.is_empty.ensures, empty) in
          white_read c.args.text.now c.cut.result.0.now c.cut.result.1.now cut.joined cut.many (nil_from_length c.cut.result.1.now size),
      λ white.
          let nil = whole_cut is_white c.args.text.now c.cut.result.0.now c.cut.result.1.now cut.joined cut.many cut.ends white in
          let size = ap length nil in
          grind (arith, nat_tests, c.is_empty.ensures, size),
    )
