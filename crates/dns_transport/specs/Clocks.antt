-- Times as moments.
use Rattle.std.specs.Prelude.{◌≡◌, ◌<◌, ◌≤◌, ◌/◌, ◌^◌, ℕ}

-- the moment of a time in nanoseconds: its whole seconds, or 0 where they are no moment
pub record IsMomentOf (nanos moment : ℕ) : Type 0 where
  pub is : nanos / 1_000_000_000 < 2 ^ 48 → moment ≡ nanos / 1_000_000_000
  pub none : 2 ^ 48 ≤ nanos / 1_000_000_000 → moment ≡ 0
