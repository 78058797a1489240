-- A queue whose room is taken once. No public clause cites this module.
use Rattle.std.specs.Prelude.{ℕ, List}

-- the items in their order, and how many there is room for
pub record Queued (X : Type 0) : Type 0 where
  pub items : List X
  pub room : ℕ
