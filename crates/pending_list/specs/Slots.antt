-- The table's places.
use Rattle.std.specs.Prelude.{◌≡◌, ◌≢◌, ℕ, zero, suc, ◌+◌, ◌-◌, List, [], ◌∷◌, Option, Some, None, length, get_or, slice_get}
use Rattle.std.specs.List.{All, AllPairs}
use Rattle.pending_list.specs.declared.nodes.Link.{Link}

-- the slots, each with a node or none, and the places of the free ones as a stack, whose top
-- comes last
pub record Slots (E : Type 0) : Type 0 where
  pub slots : List (Option (Link E))
  pub free : List ℕ

-- the top of the stack
abbrev pub next_free : List ℕ → ℕ
next_free free = get_or free (length free - 1) 0

abbrev pub flat : {X : Type 0} → Option (Option X) → Option X
flat None = None
flat (Some o) = o

-- what a place leads to, if it leads anywhere
abbrev pub leads_at : {X : Type 0} → List (Option X) → ℕ → Option X
leads_at slots place = flat (slice_get slots place)

-- how many places are taken
unfoldable pub taken : {X : Type 0} → List (Option X) → ℕ
taken [] = zero
taken (None ∷ slots) = taken slots
taken (Some x ∷ slots) = suc (taken slots)

-- the stack has each free place once
pub record AreFree {X : Type 0} (slots : List (Option X)) (free : List ℕ) : Type 0 where
  pub vacant : All (λ place. slice_get slots place ≡ Some None) free
  pub once : AllPairs (λ place later. place ≢ later) free
  pub all : length free + taken slots ≡ length slots
