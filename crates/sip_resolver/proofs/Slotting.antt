-- Slots, and the requests that wait in them.
use Rattle.std.proofs.Common.{◌≡◌, ◌≢◌, nat_eq, ℕ, suc, zero, ◌<◌, ◌≤◌, ◌+◌, Bool, true, false, if◌then◌else◌, List, [], ◌∷◌, ◌++◌, Some, None, Option, length, map, set, take, drop, refl, sym, ap, ◌∙◌, drop-cons, add-one, arith}
use Rattle.std.specs.List.{Contains, cons_option, filter, filter_map, slice_get, sum_by}
use Rattle.std.specs.Option.{MatchOption, is_some, option_map}
use Rattle.std.proofs.lemmas.List.{length-map, map-append, map-set, set_split, take-append-drop, take_all, take_more}
use Rattle.std.proofs.lemmas.List.Elements.{All-cons, All-nil, Contains-append_right, filter_map-append}
use Rattle.std.proofs.lemmas.List.Sums.{sum_by-cons, sum_by-le}
use Rattle.std.proofs.lemmas.Option.{get_or_from_slice_get, slice_get_within}
use Rattle.sip_resolver.specs.Earliest.{ends_at}
use Rattle.sip_resolver.specs.Queues.{Queued}
use Rattle.sip_resolver.specs.SlotIndexes.{HasKey, IsFirstWith, NoneBefore}
use Rattle.sip_resolver.specs.Tasks.{TaskView, WaitingView}
use Rattle.sip_resolver.specs.WaitingQueues.{HaveOther, IsBy, IsFirst, IsFirstOf, IsTakenSlot, SlotView, items_of, key_at, slot_with, until_in, waiting_in, waiting_of}

-- a slot that its request left
abbrev pub emptied : ℕ → SlotView
emptied id = record { id = id; task = None }

-- ---- one slot

module _ (slots : List SlotView) (place : ℕ) (slot : SlotView) (there : slice_get slots place ≡ Some slot) where
  within : place < length slots
  within = slice_get_within slots place slot there

  parts : slots ≡ take place slots ++ slot ∷ drop (place + 1) slots
  parts =
      sym (take-append-drop place slots)
      ∙ ap (λ l. take place slots ++ l) (drop-cons slots place slot within)
      ∙ rw (get_or_from_slice_get slots place slot slot there, add-one) refl

  pub items-parts : items_of slots ≡ items_of (take place slots) ++ items_of (slot ∷ drop (place + 1) slots)
  items-parts = ap items_of parts ∙ filter_map-append waiting_in (take place slots) (slot ∷ drop (place + 1) slots)

  pub items-to : items_of (take (place + 1) slots) ≡ items_of (take place slots) ++ items_of (slot ∷ [])
  items-to =
      rw (take_more slots place slot within, get_or_from_slice_get slots place slot slot there)
      (filter_map-append waiting_in (take place slots) (slot ∷ []))

  pub taken-more : take (place + 1) slots ≡ take place slots ++ slot ∷ []
  taken-more =
      take_more slots place slot within
      ∙ ap (λ (it : SlotView). take place slots ++ it ∷ []) (get_or_from_slice_get slots place slot slot there)

  -- the slot becomes empty
  pub items-left : (id : ℕ) → items_of (set slots place (emptied id))
      ≡ items_of (take place slots) ++ items_of (drop (place + 1) slots)
  items-left id =
      ap items_of (set_split slots place (emptied id) within)
      ∙ filter_map-append waiting_in (take place slots) (emptied id ∷ drop (suc place) slots)
      ∙ rw add-one refl

  -- ---- who waits in it

  taken-by : (task : Option TaskView) → slot.task ≡ task → is_some slot.task ≡ true → IsTakenSlot place slots
  taken-by None is some = absurd (let no = rw is at some in cc)
  taken-by (Some task) is some = (
    record { id = slot.id; task = task },
    there ∙ ap (λ (its : Option TaskView). Some (record { id = slot.id; task = its })) is,
  )

  -- ---- a search for the first one that waits

  pub first-here : items_of (take place slots) ≡ [] → is_some slot.task ≡ true → IsFirst place slots
  first-here none some = record { waits = taken-by slot.task refl some; none_before = none }

  nothing-in : (task : Option TaskView) → slot.task ≡ task → (is_some slot.task ≡ true → ⊥) → items_of (slot ∷ []) ≡ []
  nothing-in None is none = rw is refl
  nothing-in (Some task) is none = absurd (none (rw is refl))

  pub none-to : items_of (take place slots) ≡ [] → (is_some slot.task ≡ true → ⊥) → items_of (take (place + 1) slots) ≡ []
  none-to before none = items-to ∙ rw (before, nothing-in slot.task refl none) refl

-- a request that waits in a slot is among those that wait
pub stands-there : (slots : List SlotView) (place : ℕ) (it : WaitingView) → slice_get slots place ≡ Some (slot_with it)
    → Contains (items_of slots) it
stands-there slots place it waits =
    let rest = items_of (drop (place + 1) slots) in
    rw (items-parts slots place (slot_with it) waits)
    (Contains-append_right (items_of (take place slots)) (it ∷ rest) it (0, omega arith, refl))

-- ---- none waits

none-of-cons : (first : Option WaitingView) (items : List WaitingView) → cons_option first items ≡ [] → (first ≡ None) × (items ≡ [])
none-of-cons None items none = (refl, none)
none-of-cons (Some it) items none = absurd cc

-- where none waits in front, none does after one more slot became empty
pub none-still : (slots : List SlotView) (head place id : ℕ) → items_of (take head slots) ≡ []
    → items_of (take head (set slots place (emptied id))) ≡ []
none-still slots zero place id none = refl
none-still [] (suc head) place id none = refl
none-still (slot ∷ slots) (suc head) zero id none = (none-of-cons (waiting_in slot) (items_of (take head slots)) none).1
none-still (slot ∷ slots) (suc head) (suc place) id none =
    let both = none-of-cons (waiting_in slot) (items_of (take head slots)) none in
    rw both.0 (none-still slots head place id both.1)

-- ---- a search by a key

module _ (key_of : WaitingView → ℕ) (key : ℕ) where
  has-by : (id : ℕ) (task : Option TaskView) → Some (option_map key_of (waiting_of id task)) ≡ Some (Some key)
      → (it : WaitingView) × (Some (record { id = id; task = task }) ≡ Some (slot_with it)) × (key_of it ≡ key)
  has-by id None is = absurd cc
  has-by id (Some task) is = (record { id = id; task = task }, refl, cc)

  has-there : (slots : List SlotView) (place : ℕ) → HasKey (map (key_at key_of) slots) place key
      → (it : WaitingView) × (slice_get slots place ≡ Some (slot_with it)) × (key_of it ≡ key)
  has-there [] place is = absurd cc
  has-there (slot ∷ slots) zero is = has-by slot.id slot.task is
  has-there (slot ∷ slots) (suc place) is = has-there slots place is

  others-by : (id : ℕ) (task : Option TaskView) (slots : List SlotView) (n : ℕ)
      → NoneBefore key (suc n) (map (key_at key_of) (record { id = id; task = task } ∷ slots))
      → HaveOther key_of key (items_of (take n slots)) → HaveOther key_of key (items_of (record { id = id; task = task } ∷ take n slots))
  others-by id None slots n none rest = rest
  others-by id (Some task) slots n none rest =
      All-cons (λ it. key_of it ≢ key) (record { id = id; task = task }) (items_of (take n slots))
      (λ same. let early = none 0 (ap (λ k. Some (Some k)) same) in omega (arith, early)) rest

  -- none has the key in front of the first one that the index finds
  others-before : (slots : List SlotView) (n : ℕ) → NoneBefore key n (map (key_at key_of) slots)
      → HaveOther key_of key (items_of (take n slots))
  others-before slots zero none = All-nil (λ it. key_of it ≢ key)
  others-before [] (suc n) none = All-nil (λ it. key_of it ≢ key)
  others-before (slot ∷ slots) (suc n) none =
      others-by slot.id slot.task slots n none
      (others-before slots n (λ later has. let more = none (suc later) has in omega (arith, more)))

  -- what the index finds
  module _ (slots : Queued SlotView) (index : Queued (Option ℕ)) (by : IsBy key_of slots index) where
    keys-are : index.items ≡ map (key_at key_of) slots.items
    keys-are = ap (λ (q : Queued (Option ℕ)). q.items) by

    first-there : (place : ℕ) → HasKey (map (key_at key_of) slots.items) place key
        → NoneBefore key place (map (key_at key_of) slots.items) → IsFirstOf key_of key place slots.items
    first-there place has none = step (has-there slots.items place has)
      where
        step : (it : WaitingView) × (slice_get slots.items place ≡ Some (slot_with it)) × (key_of it ≡ key)
            → IsFirstOf key_of key place slots.items
        step (it, waits, same) =
            record { it = it; waits = waits; has_key = same; none_before = others-before slots.items place none }

    pub found-by : (found : Option ℕ)
        → MatchOption found (NoneBefore key (length index.items) index.items) (λ place. IsFirstWith key place index.items)
        → MatchOption found (HaveOther key_of key (items_of slots.items)) (λ place. IsFirstOf key_of key place slots.items)
    found-by None none =
        let all : NoneBefore key (length (map (key_at key_of) slots.items)) (map (key_at key_of) slots.items) = rw keys-are at none in
        let long = length-map slots.items (key_at key_of) in
        rw (take_all (length slots.items) slots.items (omega arith)) at
        (others-before slots.items (length slots.items) (λ later has. let behind = all later has in omega (arith, behind, long)))
    found-by (Some place) (has, none) = first-there place (rw keys-are at has) (rw keys-are at none)

-- ---- the indexes, as slots come and become empty

module _ (key_of : WaitingView → ℕ) (slots : Queued SlotView) (index : Queued (Option ℕ)) (by : IsBy key_of slots index) where
  -- there is room for one more
  pub room-too : length slots.items < slots.room → length index.items < index.room
  room-too less =
      let long = length-map slots.items (key_at key_of) in rw by (omega (arith, less, long))

  pub within-too : (place : ℕ) → place < length slots.items → place < length index.items
  within-too place within =
      let long = length-map slots.items (key_at key_of) in rw by (omega (arith, within, long))

  -- one more comes
  pub by-more : (it : WaitingView) (more : Queued SlotView) (new : Queued (Option ℕ))
      → more ≡ record slots { items = slots.items ++ slot_with it ∷ [] }
      → new ≡ record index { items = index.items ++ Some (key_of it) ∷ [] } → IsBy key_of more new
  by-more it more new is put =
      put ∙ rw (by, is, map-append (key_at key_of) slots.items (slot_with it ∷ [])) refl

  -- one is taken out
  pub by-less : (place id : ℕ) (left : Queued SlotView) (new : Queued (Option ℕ))
      → left ≡ record slots { items = set slots.items place (emptied id) }
      → new ≡ record index { items = set index.items place None } → IsBy key_of left new
  by-less place id left new is put = put ∙ rw (by, is, map-set (key_at key_of) slots.items place (emptied id)) refl

  -- the empty slots are let go
  pub by-kept : (kept : Queued SlotView) (new : Queued (Option ℕ))
      → kept ≡ record slots { items = filter (λ slot. is_some slot.task) slots.items }
      → new ≡ record index { items = filter (λ key. is_some key) index.items } → IsBy key_of kept new
  by-kept kept new is put = put ∙ rw (by, is, keys-kept slots.items) refl
    where
      keys-by : (id : ℕ) (task : Option TaskView) (slots : List SlotView)
          → filter (λ key. is_some key) (map (key_at key_of) slots) ≡ map (key_at key_of) (filter (λ slot. is_some slot.task) slots)
          → filter (λ key. is_some key) (map (key_at key_of) (record { id = id; task = task } ∷ slots))
          ≡ map (key_at key_of) (filter (λ slot. is_some slot.task) (record { id = id; task = task } ∷ slots))
      keys-by id None slots same = same
      keys-by id (Some task) slots same = ap (λ keys. Some (key_of (record { id = id; task = task })) ∷ keys) same

      keys-kept : (slots : List SlotView)
          → filter (λ key. is_some key) (map (key_at key_of) slots) ≡ map (key_at key_of) (filter (λ slot. is_some slot.task) slots)
      keys-kept [] = refl
      keys-kept (slot ∷ slots) = keys-by slot.id slot.task slots (keys-kept slots)

-- ---- the empty slots are let go

kept-by : (id : ℕ) (task : Option TaskView) (slots : List SlotView)
    → items_of (filter (λ slot. is_some slot.task) slots) ≡ items_of slots
    → items_of (filter (λ slot. is_some slot.task) (record { id = id; task = task } ∷ slots))
    ≡ items_of (record { id = id; task = task } ∷ slots)
kept-by id None slots same = same
kept-by id (Some task) slots same = ap (λ items. record { id = id; task = task } ∷ items) same

pub items-kept : (slots : List SlotView) → items_of (filter (λ slot. is_some slot.task) slots) ≡ items_of slots
items-kept [] = refl
items-kept (slot ∷ slots) = kept-by slot.id slot.task slots (items-kept slots)

long-by : (id : ℕ) (task : Option TaskView) (slots : List SlotView)
    → length (filter (λ slot. is_some slot.task) slots) ≡ length (items_of slots)
    → length (filter (λ slot. is_some slot.task) (record { id = id; task = task } ∷ slots))
    ≡ length (items_of (record { id = id; task = task } ∷ slots))
long-by id None slots same = same
long-by id (Some task) slots same = ap (λ n. suc n) same

pub kept-long : (slots : List SlotView) → length (filter (λ slot. is_some slot.task) slots) ≡ length (items_of slots)
kept-long [] = refl
kept-long (slot ∷ slots) = long-by slot.id slot.task slots (kept-long slots)

-- ---- the moments by which requests end

abbrev until_of : WaitingView → Option ℕ
until_of it = it.task.until

untils-by : (id : ℕ) (task : Option TaskView) (slots : List SlotView)
    → filter_map (λ (slot : SlotView). until_in slot.task) slots ≡ filter_map until_of (items_of slots)
    → filter_map (λ (slot : SlotView). until_in slot.task) (record { id = id; task = task } ∷ slots)
    ≡ filter_map until_of (items_of (record { id = id; task = task } ∷ slots))
untils-by id None slots same = same
untils-by id (Some task) slots same = ap (λ untils. cons_option task.until untils) same

pub untils-of : (slots : List SlotView)
    → filter_map (λ (slot : SlotView). until_in slot.task) slots ≡ filter_map until_of (items_of slots)
untils-of [] = refl
untils-of (slot ∷ slots) = untils-by slot.id slot.task slots (untils-of slots)

module _ (moment : ℕ) where
  abbrev slot_ends : SlotView → ℕ
  slot_ends slot = ends_at (Some moment) (until_in slot.task)

  abbrev item_ends : WaitingView → ℕ
  item_ends it = ends_at (Some moment) it.task.until

  ends-by : (id : ℕ) (task : Option TaskView) (slots : List SlotView) → sum_by slot_ends slots ≡ sum_by item_ends (items_of slots)
      → sum_by slot_ends (record { id = id; task = task } ∷ slots)
      ≡ sum_by item_ends (items_of (record { id = id; task = task } ∷ slots))
  ends-by id None slots same =
      let all = sum_by-cons slot_ends (record { id = id; task = None }) slots in
      let nothing : slot_ends (record { id = id; task = None }) ≡ 0 = refl in omega (arith, all, nothing, same)
  ends-by id (Some task) slots same =
      sum_by-cons slot_ends (record { id = id; task = Some task }) slots
      ∙ ap (λ n. ends_at (Some moment) task.until + n) same
      ∙ sym (sum_by-cons item_ends (record { id = id; task = task }) (items_of slots))

  pub ends-of : (slots : List SlotView) → sum_by slot_ends slots ≡ sum_by item_ends (items_of slots)
  ends-of [] = refl
  ends-of (slot ∷ slots) = ends-by slot.id slot.task slots (ends-of slots)

  one-by : (is : Bool) → (if is then 1 else 0) ≤ 1
  one-by true = omega arith
  one-by false = omega arith

  one-at : (until : Option ℕ) → ends_at (Some moment) until ≤ 1
  one-at None = omega arith
  one-at (Some until) = one-by (nat_eq until moment)

  pub few-end : (items : List WaitingView) → sum_by item_ends items ≤ length items
  few-end items = let all = sum_by-le item_ends 1 items (λ k d small. one-at _) in omega (arith, all)
