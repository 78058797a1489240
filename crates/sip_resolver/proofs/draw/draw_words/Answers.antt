use Rattle.std.proofs.Common.{◌≡◌, ℕ, List, sym, slice_index, ◌∙◌, arith}
use Rattle.std.proofs.lemmas.List.{ext_get_or}
use Rattle.std.proofs.lemmas.List.FromFn.{get_or-map-range_with_len, length-map-range_with_len}
use Rattle.rand_chacha.specs.ChaCha.{word_at, key_of}
use Rattle.srv_choice.specs.Draws.{drawn}
use Rattle.srv_choice.specs.Outcomes.{words_from}
use Rattle.sip_resolver.proofs.draw.draw_words.Goals as goal

-- the words of a draw from the first on are all of them
words_all : (key : List ℕ) (number : ℕ) → words_from (drawn key number) 0 256 ≡ drawn key number
unfolding drawn
words_all key number =
    let word = word_at 10 (key_of key) number in
    let all = drawn key number in
    let long = length-map-range_with_len (slice_index all) 0 256 in
    ext_get_or 0 (words_from all 0 256) all (long ∙ sym (length-map-range_with_len word 0 256))
    (λ i below. get_or-map-range_with_len (slice_index all) 0 256 i i 0 (omega (arith, below, long)) (omega arith))

pub returns : goal.returns
returns c = c.fill.ensures ∙ words_all c.args.key c.args.number
