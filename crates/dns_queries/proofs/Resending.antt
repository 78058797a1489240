-- A ticket gets another item, and is put elsewhere.
use Rattle.std.proofs.Common.{◌≡◌, ℕ, Bool, true, false, cond, List, [], ◌∷◌, Some, refl, if◌then◌else◌}
use Rattle.std.specs.Option.{option_map}
use Rattle.pending_list.specs.Ids.{Id}
use Rattle.pending_list.specs.Pending.{delayed, entry_of, has_id, moved, placed, with_item, without}
use Rattle.pending_list.specs.declared.entry.Entry.{Entry}
use Rattle.dns_queries.specs.Events.{sent_again}
use Rattle.dns_queries.specs.Listed.{resent}
use Rattle.dns_queries.specs.Tickets.{Sent}

module _ {T : Type 0} (id : Id) (item : T) where
  abbrev changed : Entry T → Entry T
  changed it = if has_id id it then record it { item = item } else it

  abbrev given : Entry T → Entry T
  given it = record it { item = item }

  others-stay-by : (x : Entry T) (entries : List (Entry T)) (is : Bool) → has_id id x ≡ is
      → without id (with_item id item entries) ≡ without id entries
      → without id (with_item id item (x ∷ entries)) ≡ without id (x ∷ entries)
  others-stay-by x entries true is rest = rw (is, is) rest
  others-stay-by x entries false is rest = rw (is, is, rest) refl

  item-is-by : (x : Entry T) (entries : List (Entry T)) (entry : Entry T) (is : Bool) → has_id id x ≡ is
      → cond is (Some x) (entry_of id entries) ≡ Some entry
      → (entry_of id entries ≡ Some entry → entry_of id (with_item id item entries) ≡ Some (given entry))
      → entry_of id (with_item id item (x ∷ entries)) ≡ Some (given entry)
  item-is-by x entries entry true is found rest = let same : x ≡ entry = cc in rw (is, is, same) refl
  item-is-by x entries entry false is found rest = rw (is, is) (rest found)

  -- the other entries stay
  pub others-stay : (entries : List (Entry T)) → without id (with_item id item entries) ≡ without id entries
  others-stay [] = refl
  others-stay (x ∷ entries) = others-stay-by x entries (has_id id x) refl (others-stay entries)

  -- the entry has the item
  pub item-is : (entries : List (Entry T)) (entry : Entry T) → entry_of id entries ≡ Some entry
      → entry_of id (with_item id item entries) ≡ Some (given entry)
  item-is [] entry found = absurd cc
  item-is (x ∷ entries) entry found = item-is-by x entries entry (has_id id x) refl found (item-is entries entry)

-- the entry was sent once more
pub resent-is : (id : Id) (entries : List (Entry Sent)) (entry : Entry Sent) (deadline : ℕ) (sent : Sent) → entry_of id entries ≡ Some entry
    → sent ≡ sent_again entry.item → moved id deadline (with_item id sent entries) ≡ placed (resent deadline entry) (without id entries)
resent-is id entries entry deadline sent found is =
    rw (item-is id sent entries entry found, others-stay id sent entries, is) refl

pub resent-found : (id : Id) (entries : List (Entry Sent)) (entry : Entry Sent) (deadline : ℕ) (sent : Sent)
    → entry_of id entries ≡ Some entry
    → sent ≡ sent_again entry.item → option_map (delayed deadline) (entry_of id (with_item id sent entries)) ≡ Some (resent deadline entry)
resent-found id entries entry deadline sent found is = rw (item-is id sent entries entry found, is) refl
