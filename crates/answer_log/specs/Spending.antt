-- What contracts count of the calls of a seat.
use Rattle.std.specs.Prelude.{ℕ, ◌+◌}

-- what the calls of a seat have spent: how many links they have passed, how many times they have
-- tried to place a node, and how many numbers led to no node
pub record Spending : Type 0 where
  pub links : ℕ
  pub tries : ℕ
  pub missed : ℕ

-- nothing was spent
abbrev pub nothing : Spending
nothing = record { links = 0; tries = 0; missed = 0 }

-- one link more was passed
abbrev pub one_link : Spending → Spending
one_link spent = record spent { links = spent.links + 1 }

-- one more try was made to place a node
abbrev pub one_try : Spending → Spending
one_try spent = record spent { tries = spent.tries + 1 }

-- one more number led to no node
abbrev pub one_miss : Spending → Spending
one_miss spent = record spent { missed = spent.missed + 1 }
