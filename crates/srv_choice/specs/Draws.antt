-- The random words of a choice: given, or drawn by a key and a number.
use Rattle.std.specs.Prelude.{ℕ, List, map}
use Rattle.std.specs.List.{range_with_len}
use Rattle.rand_chacha.specs.ChaCha.{word_at, key_of}
use Rattle.srv_choice.specs.declared.words.RandomWords.{RandomWords}
use Rattle.srv_choice.specs.declared.words.RandomWords.TheVariants.{Given, Drawn}

-- the first 256 words of the stream of a number, by a key (RFC 8439 2.3)
unfoldable pub drawn : List ℕ → ℕ → List ℕ
drawn key number = map (word_at 10 (key_of key) number) (range_with_len 0 256)

-- the words: those that were given, or those of a draw
abbrev pub words_of : RandomWords → List ℕ
words_of (Given words) = words.now.0
words_of (Drawn key number) = drawn key number
