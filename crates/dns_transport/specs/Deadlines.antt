-- How long replies are waited for.
use Rattle.std.specs.Prelude.{◌≡◌, ℕ, ◌+◌, ◌-◌, ◌^◌, min, Bool, true, false}
use Rattle.dns_transport.specs.declared.reply_times.ReplyTimes.{ReplyTimes}

-- the milliseconds for which the reply to a query is waited for that goes over TCP, or over UDP
abbrev pub time_over : ReplyTimes → Bool → ℕ
time_over times true = times.over_tcp
time_over times false = times.over_udp

-- a millisecond is so many after one that a system shows, as far as 64 bits go
pub record IsAfter (shows : ℕ → Type 0) (time until : ℕ) : Type 0 where
  pub now : ℕ
  pub shown : shows now
  pub is : until ≡ min (now + time) (2 ^ 64 - 1)
