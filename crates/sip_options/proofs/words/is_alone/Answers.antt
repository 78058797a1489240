use Rattle.std.proofs.Common.{◌≡◌, true, false, sym, ◌∙◌}
use Rattle.std.proofs.lemmas.List.{append_cancel_left}
use Rattle.sip_options.proofs.WordTexts.{alone_read, alone_back, many_at}
use Rattle.sip_options.proofs.words.is_alone.Goals as goal

pub returns-in-Some : goal.returns-in-Some
returns-in-Some c =
    let word = c.args.word.now in
    let text = c.args.text.now in
    let front = c.cut.result.0.now in
    let rest = c.cut.result.1.now in
    let cut = c.cut.ensures in
    let found = c.in-Some.ensures.found in (
      λ white. alone_read word text front rest cut.joined cut.many c.in-Some.back.now found (c.is_white.ensures.0 white),
      λ is.
          let e = alone_back word text front rest cut.joined cut.many c.requires cut.ends is in
          let same = append_cancel_left word is.back c.in-Some.back.now (sym e ∙ found) in
          c.is_white.ensures.1 (many_at is.back c.in-Some.back.now same is.back_white),
    )

pub returns-in-None : goal.returns-in-None
returns-in-None c =
    let word = c.args.word.now in
    let text = c.args.text.now in
    let front = c.cut.result.0.now in
    let rest = c.cut.result.1.now in
    let cut = c.cut.ensures in (
      λ no. absurd (let differ : false ≡ true = no in cc),
      λ is. absurd (c.in-None.ensures.none is.back (alone_back word text front rest cut.joined cut.many c.requires cut.ends is)),
    )
