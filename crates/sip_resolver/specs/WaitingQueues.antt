-- The requests that wait for replies, in slots. No public clause cites this module.
use Rattle.std.specs.Prelude.{◌≡◌, ◌≢◌, ◌≤◌, ℕ, List, [], ◌∷◌, ◌++◌, Option, Some, None, length, map, slice_get, slice_set, take}
use Rattle.std.specs.List.{All, filter_map}
use Rattle.std.specs.Option.{option_map}
use Rattle.sip_resolver.specs.Queues.{Queued}
use Rattle.sip_resolver.specs.Requests.{number_of_waiting, waiting_for}
use Rattle.sip_resolver.specs.Tasks.{TaskView, WaitingView}

-- ---- the slots

-- a slot: the id of the message for whose reply a request waits in it or waited, and the request,
-- if it waits
pub record SlotView : Type 0 where
  pub id : ℕ
  pub task : Option TaskView

-- the moment by which a request ends, if there is one and if it has one
abbrev pub until_in : Option TaskView → Option ℕ
until_in None = None
until_in (Some task) = task.until

-- the request that waits for the reply to the message of this id, if there is one
abbrev pub waiting_of : ℕ → Option TaskView → Option WaitingView
waiting_of id None = None
waiting_of id (Some task) = Some (record { id = id; task = task })

-- the request that waits in a slot, if one does
abbrev pub waiting_in : SlotView → Option WaitingView
waiting_in slot = waiting_of slot.id slot.task

-- the requests that wait, in the order of their slots
abbrev pub items_of : List SlotView → List WaitingView
items_of slots = filter_map waiting_in slots

-- a slot in which this request waits
abbrev pub slot_with : WaitingView → SlotView
slot_with it = record { id = it.id; task = Some it.task }

-- a request waits in the slot at this place
abbrev pub IsTakenSlot : ℕ → List SlotView → Type 0
IsTakenSlot place slots = (it : WaitingView) × (slice_get slots place ≡ Some (slot_with it))

-- a request waits in the slot at this place, and none in front of it
pub record IsFirst (place : ℕ) (slots : List SlotView) : Type 0 where
  pub waits : IsTakenSlot place slots
  pub none_before : items_of (take place slots) ≡ []

-- none of these requests has this key
abbrev pub HaveOther : (WaitingView → ℕ) → ℕ → List WaitingView → Type 0
HaveOther key_of key waiting = All (λ it. key_of it ≢ key) waiting

-- the request that waits in the slot at this place is the first one that has this key
pub record IsFirstOf (key_of : WaitingView → ℕ) (key place : ℕ) (slots : List SlotView) : Type 0
  where
    pub it : WaitingView
    pub waits : slice_get slots place ≡ Some (slot_with it)
    pub has_key : key_of it ≡ key
    pub none_before : HaveOther key_of key (items_of (take place slots))

-- the request that waits in the slot at this place is taken out, and leaves the slot empty
pub record IsTakenAt (place : ℕ) (waiting : WaitingView) (old new : Queued SlotView) : Type 0 where
  pub there : slice_get old.items place
      ≡ Some (record { id = waiting.id; task = Some waiting.task })
  pub left : new
      ≡ record old { items = slice_set old.items place (record { id = waiting.id; task = None }) }

-- ---- the indexes of the slots

-- the id of the message for whose reply a request waits
abbrev pub id_of : WaitingView → ℕ
id_of it = it.id

-- the key that the request has which waits in a slot, if one does
abbrev pub key_at : (WaitingView → ℕ) → SlotView → Option ℕ
key_at key_of slot = option_map key_of (waiting_in slot)

-- an index finds the requests that wait in these slots by this key
abbrev pub IsBy : (WaitingView → ℕ) → Queued SlotView → Queued (Option ℕ) → Type 0
IsBy key_of slots index =
    index ≡ record { items = map (key_at key_of) slots.items; room = slots.room }

-- the requests that wait are found by the ids of the messages, and by their numbers
pub record AreIndexed (slots : Queued SlotView) (ids numbers : Queued (Option ℕ)) : Type 0 where
  pub by_id : IsBy id_of slots ids
  pub by_number : IsBy number_of_waiting slots numbers

-- ---- the queue

-- none waits in front of the head, so many wait, and there are slots for all for whom there is room
pub record AreQueued (slots : Queued SlotView) (head count room : ℕ) : Type 0 where
  pub none_before : items_of (take head slots.items) ≡ []
  pub head_within : head ≤ length slots.items
  pub counted : length (items_of slots.items) ≡ count
  pub few : count ≤ room
  pub enough : room ≤ slots.room

-- the first one that waits for the reply to the message of this id is taken out
pub record IsWithoutFirstFor (id : ℕ) (waiting : WaitingView) (old new : Queued WaitingView)
    : Type 0 where
  pub first : List WaitingView
  pub later : List WaitingView
  pub was : old.items ≡ first ++ waiting ∷ later
  pub is_first : waiting_for id first ≡ []
  pub waits : waiting.id ≡ id
  pub left : new ≡ record old { items = first ++ later }

-- the first one of this number is taken out
pub record IsWithoutFirstNumbered (number : ℕ) (waiting : WaitingView)
    (old new : Queued WaitingView) : Type 0 where
  pub first : List WaitingView
  pub later : List WaitingView
  pub was : old.items ≡ first ++ waiting ∷ later
  pub is_first : HaveOther number_of_waiting number first
  pub has_number : waiting.task.number ≡ number
  pub left : new ≡ record old { items = first ++ later }
