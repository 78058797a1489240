-- A table of places, as a finite map from ids. No public clause cites this module.
use Rattle.std.specs.Prelude.{ℕ, List, Option, nat_eq}
use Rattle.std.specs.Map.{lookup}
use Rattle.pending_list.specs.Ids.{Id}

-- ids with their places, and how many ids more it takes without memory
pub record Places : Type 0 where
  pub entries : List (ℕ × Id)
  pub room : ℕ

-- the place of an id
abbrev pub place_in : Places → ℕ → Option Id
place_in places id = lookup (nat_eq id) places.entries
