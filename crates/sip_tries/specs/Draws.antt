-- What pings draw of a key.
use Rattle.std.specs.Prelude.{ℕ, ◌-◌, ◌^◌, List}
use Rattle.rand_chacha.specs.ChaCha.{ChaCha, key_of}

-- the stream of the numbers of pings, which is in the upper half of all streams
abbrev pub ping_stream : ℕ
ping_stream = 2 ^ 64 - 3

-- what gives the numbers of pings, by a key: that stream of ChaCha20, from its start (RFC 8439 2.3)
abbrev pub ping_draws : List ℕ → ChaCha
ping_draws key = record { key = key_of key; stream = ping_stream; word_pos = 0 }
