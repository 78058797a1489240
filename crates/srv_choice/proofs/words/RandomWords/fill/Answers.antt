use Rattle.std.proofs.Common.{◌≡◌, ◌+◌, ◌-◌, length, sym, ◌∙◌, arith}
use Rattle.srv_choice.proofs.Listings.{words_there}
use Rattle.srv_choice.proofs.words.RandomWords.fill.Goals as goal

pub returns-in-Given : goal.returns-in-Given
returns-in-Given c =
    let count : (c.args.from + length c.args.words.now) - c.args.from ≡ length c.args.words.now = omega arith in
    let there = words_there c.in-Given.given.now.0 c.args.from (length c.args.words.now) (omega arith) in
    rw c.in-Given.is ((rw count at c.copy_from_slice.ensures.after) ∙ sym there)
