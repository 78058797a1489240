use Rattle.std.proofs.Common.{arith}
use Rattle.srv_choice.proofs.Listings.{words_drawn}
use Rattle.srv_choice.proofs.words.draw.Goals as goal

pub returns : goal.returns
returns c =
    let l = c.loop-word in
    words_drawn c.args.key c.args.number c.args.from _ l.words c.requires l.invariant.long
    (λ i below. l.invariant.drawn i (omega (arith, below, l.invariant.long, c.loop-word-test.false)))
