-- A clock that counts milliseconds.
use Rattle.std.specs.Prelude.{◌≡◌, ◌⊎◌, ℕ, ◌+◌, ◌*◌, ◌-◌, ◌^◌, ◌<◌, ◌≤◌, min}

-- The first second from this millisecond on; the last second that there is, 2^48 - 1, also where it
-- is over by then.
pub record IsRoundedUp (milliseconds second : ℕ) : Type 0 where
  pub from : (milliseconds ≤ second * 1000) ⊎ (second + 1 ≡ 2 ^ 48)
  pub first : second * 1000 < milliseconds + 1000

-- how many of 64 bits are left at this millisecond until a second; 0 where it is over
abbrev pub left_until : ℕ → ℕ → ℕ
left_until second milliseconds = min (second * 1000) (2 ^ 64 - 1) - milliseconds
