-- How nodes are linked. No public clause cites this module.
use Rattle.std.specs.Prelude.{◌≡◌, cond, List, [], ◌∷◌, ◌++◌, map, Option, Some, None, IsSome, Bool, true, false}
use denote.RawPtr.{Ptr}
use Rattle.pending_list.specs.declared.nodes.Link.{Link}
use Rattle.pending_list.specs.declared.node.Node.{Node}
use Rattle.pending_list.specs.Cells.{Cell, cell, same_address, value_at}

module _ {E M : Type 0} where
  -- a link, where there is one, leads to one of the cells
  abbrev pub IsThere : Option (Link E) → List (Cell M) → Type 0
  IsThere None cs = Unit {0}
  IsThere (Some l) cs = IsSome (value_at l.at cs)

module _ {N : Type 0} where
  -- the cells with the value at an address changed
  unfoldable pub changed_at : Ptr → (N → N) → List (Cell N) → List (Cell N)
  changed_at p f [] = []
  changed_at p f (c ∷ cs) =
      cond (same_address c.at p) (cell c.at (f c.value) ∷ cs) (c ∷ changed_at p f cs)

-- where a neighbour lies, if there is one
abbrev pub Neighbour : Type 0 → Type 0
Neighbour E = Option (Link E)

module _ {E : Type 0} where
  -- what comes after a node that was found, or first
  abbrev pub next_in : Neighbour E → Option (Node E) → Neighbour E
  next_in first None = first
  next_in first (Some n) = n.next

  -- what comes after a node, or what comes first where there is none
  abbrev pub first_after : Neighbour E → Neighbour E → List (Cell (Node E)) → Neighbour E
  first_after None first cs = first
  first_after (Some l) first cs = next_in first (value_at l.at cs)

  -- the nodes, where what comes after one is another from now on
  abbrev pub next_set : Neighbour E → Neighbour E → List (Cell (Node E)) → List (Cell (Node E))
  next_set None next cs = cs
  next_set (Some l) next cs = changed_at l.at (λ n. record n { next = next }) cs

  -- what comes first then
  abbrev pub next_first : Neighbour E → Neighbour E → Neighbour E → Neighbour E
  next_first None next first = next
  next_first (Some l) next first = first

  -- the nodes, where what comes before one is another from now on
  abbrev pub prev_set : Neighbour E → Neighbour E → List (Cell (Node E)) → List (Cell (Node E))
  prev_set None prev cs = cs
  prev_set (Some l) prev cs = changed_at l.at (λ n. record n { prev = prev }) cs

  -- what comes last then
  abbrev pub prev_last : Neighbour E → Neighbour E → Neighbour E → Neighbour E
  prev_last None prev last = prev
  prev_last (Some l) prev last = last

  -- the entries, each at its address
  abbrev pub entries_of : List (Cell (Node E)) → List (Cell E)
  entries_of = map (λ c. cell c.at c.value.entry)

  abbrev pub link_to : Cell (Node E) → Link E
  link_to c = record { at = c.at }

  unfoldable pub head_or : Neighbour E → List (Cell (Node E)) → Neighbour E
  head_or after [] = after
  head_or after (c ∷ cs) = Some (link_to c)

  unfoldable pub last_or : Neighbour E → List (Cell (Node E)) → Neighbour E
  last_or before [] = before
  last_or before (c ∷ cs) = last_or (Some (link_to c)) cs

  -- each node leads to those beside it
  unfoldable pub AreLinked : Neighbour E → List (Cell (Node E)) → Neighbour E → Type 0
  AreLinked before [] after = Unit {0}
  AreLinked before (c ∷ cs) after =
      (c.value.prev ≡ before) × (c.value.next ≡ head_or after cs)
      × AreLinked (Some (link_to c)) cs after

-- where the cells lie
abbrev pub addresses : {N : Type 0} → List (Cell N) → List Ptr
addresses = map (λ c. c.at)

-- a pointer is one of these
unfoldable pub has : Ptr → List Ptr → Bool
has p [] = false
has p (q ∷ ps) = cond (same_address q p) true (has p ps)

-- none of these comes twice
unfoldable pub AreDistinct : List Ptr → Type 0
AreDistinct [] = Unit {0}
AreDistinct (p ∷ ps) = (has p ps ≡ false) × AreDistinct ps

-- where the last of these lies
unfoldable pub last_address : {N : Type 0} → List (Cell N) → Option Ptr
last_address [] = None
last_address (c ∷ []) = Some c.at
last_address (c ∷ d ∷ cs) = last_address (d ∷ cs)

-- where the first of these lies
unfoldable pub first_address : {N : Type 0} → List (Cell N) → Option Ptr
first_address [] = None
first_address (c ∷ cs) = Some c.at

module _ {N : Type 0} where
  -- the cell at an address stands right behind another, or first
  pub record StandsBehind (p : Ptr) (before : Option Ptr) (cs : List (Cell N)) : Type 0 where
    pub front : List (Cell N)
    pub value : N
    pub back : List (Cell N)
    pub whole : cs ≡ front ++ cell p value ∷ back
    pub is : before ≡ last_address front

  -- the cell at an address stands right before another, or last
  pub record StandsBefore (p : Ptr) (behind : Option Ptr) (cs : List (Cell N)) : Type 0 where
    pub front : List (Cell N)
    pub value : N
    pub back : List (Cell N)
    pub whole : cs ≡ front ++ cell p value ∷ back
    pub is : behind ≡ first_address back

-- the cells from an address on
unfoldable pub cells_from : {N : Type 0} → Option Ptr → List (Cell N) → List (Cell N)
cells_from None cs = []
cells_from (Some p) [] = []
cells_from (Some p) (c ∷ cs) = cond (same_address c.at p) (c ∷ cs) (cells_from (Some p) cs)
