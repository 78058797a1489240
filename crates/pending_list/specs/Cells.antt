-- Values behind raw pointers, in an order. No public clause cites this module.
use Rattle.std.specs.Prelude.{Bool, true, false, ◌&&◌, ◌==◌, cond, List, [], ◌∷◌, map, Option, Some, None}
use Rattle.std.specs.Option.{option_map}
use Rattle.std.specs.Box.Ownership.{box_owns}
use base.Fml.{Lft, Fml, ftrue, fsep}
use denote.RattleType.{RattleType}
use denote.RawPtr.{Ptr, block_ptr, null_ptr}
use denote.Sharing.{nothing, beside}
use denote.Struct.Lending.{lent_at}
use Rattle.libc.specs.Heap.{chunk}
use Rattle.pending_list.specs.declared.nodes.Link.{Link}

-- a value, and its address
pub record Cell (N : Type 0) : Type 0 where
  pub at : Ptr
  pub value : N

-- whether two pointers are the same
abbrev pub same_address : Ptr → Ptr → Bool
same_address (block_ptr b o) (block_ptr c p) = (b == c) && (o == p)
same_address (block_ptr b o) null_ptr = false
same_address null_ptr (block_ptr c p) = false
same_address null_ptr null_ptr = true

abbrev pub address_of : {E : Type 0} → Option (Link E) → Option Ptr
address_of = option_map (λ l. l.at)

module _ {N : Type 0} where
  abbrev pub cell : Ptr → N → Cell N
  cell p x = record { at = p; value = x }

  -- the value at an address
  unfoldable pub value_at : Ptr → List (Cell N) → Option N
  value_at p [] = None
  value_at p (c ∷ cs) = cond (same_address c.at p) (Some c.value) (value_at p cs)

  -- the cells with another value at an address
  unfoldable pub set_at : Ptr → N → List (Cell N) → List (Cell N)
  set_at p w [] = []
  set_at p w (c ∷ cs) = cond (same_address c.at p) (cell c.at w ∷ cs) (c ∷ set_at p w cs)

  -- the cells but the one at an address
  unfoldable pub without : Ptr → List (Cell N) → List (Cell N)
  without p [] = []
  without p (c ∷ cs) = cond (same_address c.at p) cs (c ∷ without p cs)

  -- the cells with one more after the one at an address
  unfoldable pub put_behind : Ptr → Cell N → List (Cell N) → List (Cell N)
  put_behind p d [] = d ∷ []
  put_behind p d (c ∷ cs) = cond (same_address c.at p) (c ∷ d ∷ cs) (c ∷ put_behind p d cs)

  -- the same, or in front of all
  abbrev pub put_after : Option Ptr → Cell N → List (Cell N) → List (Cell N)
  put_after None d cs = d ∷ cs
  put_after (Some p) d cs = put_behind p d cs

-- ownership of the boxes
abbrev pub cells_own : (R : RattleType) → List (Cell R.Denot) → Fml
cells_own R [] = ftrue
cells_own R (c ∷ cs) = fsep (box_owns chunk R c.at c.value) (cells_own R cs)

-- what a `&` has of them
abbrev pub cells_lent : (R : RattleType) → List (Cell R.Denot) → Lft → Fml
cells_lent R [] = nothing
cells_lent R (c ∷ cs) = beside (lent_at R c.at c.value) (cells_lent R cs)

-- the values in their order
abbrev pub values : {N : Type 0} → List (Cell N) → List N
values = map (λ c. c.value)
