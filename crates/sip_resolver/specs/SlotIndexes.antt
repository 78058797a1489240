-- Slots that are found by a key. No public clause cites this module.
use Rattle.std.specs.Prelude.{◌≡◌, ◌==◌, ◌&&◌, ◌<◌, ◌≤◌, ◌+◌, ℕ, Bool, true, List, Option, Some, None, bit_and, if◌then◌else◌, length, map, slice_get, slice_index_or}
use Rattle.std.specs.List.{All}
use Rattle.sip_resolver.specs.declared.slot_links.KeyedSlot.{KeyedSlot}

-- ---- a search

-- the slot at this place is taken, under this key
abbrev pub HasKey : List (Option ℕ) → ℕ → ℕ → Type 0
HasKey slots place key = slice_get slots place ≡ Some (Some key)

-- no slot in front of this place is taken under this key
abbrev pub NoneBefore : ℕ → ℕ → List (Option ℕ) → Type 0
NoneBefore key place slots = (later : ℕ) → HasKey slots later key → place ≤ later

-- the slot at this place is the first one that is taken under this key
abbrev pub IsFirstWith : ℕ → ℕ → List (Option ℕ) → Type 0
IsFirstWith key place slots = HasKey slots place key × NoneBefore key place slots

-- ---- how slots are linked

-- the key under which a slot is taken, if it is
abbrev pub key_in : KeyedSlot → Option ℕ
key_in slot = if slot.is_taken then Some slot.key else None

-- a slot is taken, under this key
abbrev pub is_under : ℕ → KeyedSlot → Bool
is_under key slot = slot.is_taken && slot.key == key

-- the slot at this place is taken, under this key
abbrev pub IsTakenUnder : List KeyedSlot → ℕ → ℕ → Type 0
IsTakenUnder slots place key =
    slice_get slots place ≡ Some (record { key = key; is_taken = true })

-- Of each class of keys a place that no slot is taken in front of under a key of it, and the place
-- behind its last slot. By the place behind each slot a place that no later slot of its class
-- stands in front of. And the bits of a key that are its class.
pub record LinksView : Type 0 where
  pub firsts : List ℕ
  pub ends : List ℕ
  pub nexts : List ℕ
  pub mask : ℕ

-- the class of a key
abbrev pub class_of : ℕ → LinksView → ℕ
class_of key it = bit_and key it.mask

-- a place that no slot is taken in front of under a key of the class of this one
abbrev pub first_of : ℕ → LinksView → ℕ
first_of key it = slice_index_or it.firsts (class_of key it) 0

-- the place behind the last slot of the class of this key, or 0 where it has none
abbrev pub end_of : ℕ → LinksView → ℕ
end_of key it = slice_index_or it.ends (class_of key it) 0

-- the slots that have these keys are linked, each with the next one of its class
pub record AreLinked (keys : List ℕ) (it : LinksView) : Type 0 where
  pub within : All (λ end. end ≤ length keys) it.ends
  pub ends : (place key : ℕ) → slice_get keys place ≡ Some key → place < end_of key it
  pub lasts : (key last : ℕ) → end_of key it ≡ last + 1
      → (other : ℕ) × (slice_get keys last ≡ Some other) × (class_of other it ≡ class_of key it)
  pub nexts : (place later key other : ℕ) → place < later → slice_get keys place ≡ Some key
      → slice_get keys later ≡ Some other → class_of key it ≡ class_of other it
      → slice_index_or it.nexts (place + 1) 0 ≤ later

-- the slots are linked, and none is taken in front of the first place of its class
pub record LinkSlots (slots : List KeyedSlot) (it : LinksView) : Type 0 where
  pub linked : AreLinked (map (λ slot. slot.key) slots) it
  pub firsts : (key later : ℕ) → IsTakenUnder slots later key → first_of key it ≤ later

-- the links are of these slots, and have room for as many as there is room for
pub record AreFound (slots : List KeyedSlot) (room : ℕ) (it : LinksView) : Type 0 where
  pub links : LinkSlots slots it
  pub fits : length it.nexts ≡ room + 1
