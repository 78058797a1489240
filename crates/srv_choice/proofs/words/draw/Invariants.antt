use Rattle.std.proofs.Common.{◌≡◌, ℕ, ◌+◌, ◌<◌, length, slice_index}
use Rattle.rand_chacha.specs.ChaCha.{key_of, word_at}
use Rattle.srv_choice.proofs.words.draw.Given as goal

abbrev pub invariant-loop-word : goal.invariant-loop-word
invariant-loop-word l = record {
  place : l.stream ≡ record { key = key_of l.fn.key; stream = l.number; word_pos = l.from + l.word-index };
  drawn : (i : ℕ) → i < l.word-index → slice_index l.words i ≡ word_at 10 (key_of l.fn.key) l.number (l.from + i);
  long : length l.words ≡ length l.fn.words;
}
