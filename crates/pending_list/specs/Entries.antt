-- What waits.
use Rattle.std.specs.Prelude.{ℕ}
use Rattle.pending_list.specs.Ids.{Id}

-- an item, its id and its deadline
pub record Entry (T : Type 0) : Type 0 where
  pub id : Id
  pub deadline : ℕ
  pub item : T
