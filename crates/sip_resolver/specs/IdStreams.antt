-- The streams of ids of queries.
use Rattle.std.specs.Prelude.{ℕ, ◌+◌, ◌%◌, ◌^◌, List}
use Rattle.rand_chacha.specs.ChaCha.{ChaCha, key_of}

-- the stream of the ids of a number: one of the upper half of all streams
abbrev pub id_stream : ℕ → ℕ
id_stream number = 2 ^ 63 + number % 2 ^ 63

-- what gives the ids of a number, by a key: that stream of ChaCha20, from its start (RFC 8439 2.3)
abbrev pub ids_of : List ℕ → ℕ → ChaCha
ids_of key number = record { key = key_of key; stream = id_stream number; word_pos = 0 }
