use Rattle.std.proofs.Common.{◌≡◌, ◌<◌, length, false, sym, ap, ◌∙◌, rules}
use Rattle.resolver_file.proofs.WordParts.{words_of-word}
use Rattle.resolver_file.specs.ResolverLines.{is_indented, words_of}
use Rattle.resolver_file.proofs.words.next_word.Goals as goal

pub returns-clause-words : goal.returns-clause-words
returns-clause-words c =
    let rest = c.split_at.result.1.now in
    let same : words_of rest ≡ words_of c.args.text.now = ap words_of c.split_at.ensures.back ∙ c.blank_count.ensures.same in
    let plain : is_indented rest ≡ false = ap is_indented c.split_at.ensures.back ∙ c.blank_count.ensures.plain in
    let some : 0 < length rest = let is = c.is_empty.ensures in let no = c.if-is_empty.false in search rules in
    let word = c.word_length.ensures in
    rw (c.split_at-2.ensures.front, c.split_at-2.ensures.back)
    (sym same ∙ words_of-word rest c.word_length.result some word.within plain word.stops word.word)
