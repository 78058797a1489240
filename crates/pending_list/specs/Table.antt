-- How the table leads to the entries. No public clause cites this module.
use Rattle.std.specs.Prelude.{◌≡◌, ℕ, ◌<◌, ◌≤◌, ◌++◌, List, Option, Some, None, true}
use Rattle.std.specs.List.{All, position}
use denote.RawPtr.{Ptr}
use Rattle.pending_list.specs.Cells.{Cell, value_at, values}
use Rattle.pending_list.specs.Links.{last_address}
use Rattle.pending_list.specs.Ids.{Id}
use Rattle.pending_list.specs.Pending.{has_id}
use Rattle.pending_list.specs.Slots.{leads_at}
use Rattle.pending_list.specs.Entries.{Entry}
use Rattle.pending_list.specs.declared.nodes.Link.{Link}

module _ {T : Type 0} where
  -- the place of each entry's id leads to it, and each that leads anywhere leads to such an entry
  pub record IsTable (table : List (Option (Link (Entry T))))
      (cs : List (Cell (Entry T))) : Type 0 where
    pub holds : (p : Ptr) (e : Entry T) → value_at p cs ≡ Some e
        → leads_at table e.id.place ≡ Some (record { at = p })
    pub points : (i : ℕ) (l : Link (Entry T)) → leads_at table i ≡ Some l
        → (e : Entry T) × (value_at l.at cs ≡ Some e) × (e.id.place ≡ i)

  -- the entry with an id lies there, or there is none
  abbrev pub LeadsTo : Id → Option Ptr → List (Cell (Entry T)) → Type 0
  LeadsTo id None cs = position (has_id id) (values cs) ≡ None
  LeadsTo id (Some p) cs = (e : Entry T) × (value_at p cs ≡ Some e) × (has_id id e ≡ true)

  -- an entry with the deadline belongs behind the one there, or in front of all
  pub record BelongsBehind (deadline : ℕ) (at : Option Ptr)
      (cs : List (Cell (Entry T))) : Type 0 where
    pub front : List (Cell (Entry T))
    pub back : List (Cell (Entry T))
    pub whole : cs ≡ front ++ back
    pub is : at ≡ last_address front
    pub before : All (λ it. it.deadline ≤ deadline) (values front)
    pub behind : All (λ it. deadline < it.deadline) (values back)
