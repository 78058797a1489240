-- The log: whose each event is, the history that was placed, and the cells that fit it.
use Rattle.std.specs.Prelude.{◌≡◌, ◌≢◌, ℕ, ◌<◌, ◌==◌, ◌⊎◌, Bool, true, false, List, [], ◌∷◌}
use Rattle.std.specs.List.{filter}
use Rattle.logbook.specs.Pages.{Cell, cell}
use Rattle.answer_log.specs.Groups.{group_in}
use Rattle.answer_log.specs.declared.event.Event.{Event}
use Rattle.answer_log.specs.declared.event.Event.TheVariants.{Asks, Named, Opened, Placed}
use Rattle.answer_log.specs.declared.store.Store.{Store}

-- the seat that an event is of; 64, which is no seat, where the event opens the log
abbrev pub seat_of : Event → ℕ
seat_of (Opened seats groups) = 64
seat_of (Asks seat count) = seat
seat_of (Named node store link) = store.seat
seat_of (Placed node store link) = store.seat

-- for how many seats an event opens the log; 0 where it does not open it
abbrev pub opened_for : Event → ℕ
opened_for (Opened seats groups) = seats
opened_for (Asks seat count) = 0
opened_for (Named node store link) = 0
opened_for (Placed node store link) = 0

-- how many seats there are: the first event says it
abbrev pub seats_in : List Event → ℕ
seats_in [] = 0
seats_in (first ∷ log) = opened_for first

-- with how many groups an event opens the log; 0 where it does not open it
abbrev pub opened_with : Event → ℕ
opened_with (Opened seats groups) = groups
opened_with (Asks seat count) = 0
opened_with (Named node store link) = 0
opened_with (Placed node store link) = 0

-- how many groups there are: the first event says it
abbrev pub groups_in : List Event → ℕ
groups_in [] = 0
groups_in (first ∷ log) = opened_with first

-- the stores that were placed, the oldest first
abbrev pub history : List Event → List Store
history [] = []
history (Opened seats groups ∷ log) = history log
history (Asks seat count ∷ log) = history log
history (Named node store link ∷ log) = history log
history (Placed node store link ∷ log) = store ∷ history log

-- an event places a node, for a store whose question is in the group, one of so many
abbrev pub is_in : ℕ → ℕ → Event → Bool
is_in groups group (Opened seats _) = false
is_in groups group (Asks seat count) = false
is_in groups group (Named node store link) = false
is_in groups group (Placed node store link) = group_in groups store.question == group

-- the nodes that were placed for a group, one of so many
abbrev pub placed_of : ℕ → ℕ → List Event → List Event
placed_of groups group log = filter (is_in groups group) log

-- the node that was placed last; the one given where none was
abbrev pub top_from : ℕ → List Event → ℕ
top_from last [] = last
top_from last (Opened seats groups ∷ log) = top_from last log
top_from last (Asks seat count ∷ log) = top_from last log
top_from last (Named node store link ∷ log) = top_from last log
top_from last (Placed node store link ∷ log) = top_from node log

-- The node that was placed last for a group, one of so many. Nodes are numbered from 1, so 0 says
-- that there is none.
abbrev pub top : ℕ → ℕ → List Event → ℕ
top groups group log = top_from 0 (placed_of groups group log)

-- The link of each placed node is at home, and holds the node that was placed before it. The cells
-- of the heads, one for each group, and the idle cell after them are no links.
abbrev pub Linked : ℕ → List Cell → ℕ → List Event → Type 0
Linked groups cells last [] = Unit {0}
Linked groups cells last (Opened seats _ ∷ log) = Linked groups cells last log
Linked groups cells last (Asks seat count ∷ log) = Linked groups cells last log
Linked groups cells last (Named node store link ∷ log) = Linked groups cells last log
Linked groups cells last (Placed node store link ∷ log) = (groups < link)
    × (cell cells link ≡ (last, true)) × Linked groups cells node log

-- an event is in a log
abbrev pub In : Event → List Event → Type 0
In event [] = ⊥
In event (first ∷ log) = (first ≡ event) ⊎ In event log

-- no event of a log places this node
abbrev pub Unplaced : ℕ → List Event → Type 0
Unplaced node [] = Unit {0}
Unplaced node (Opened seats groups ∷ log) = Unplaced node log
Unplaced node (Asks seat count ∷ log) = Unplaced node log
Unplaced node (Named other store link ∷ log) = Unplaced node log
Unplaced node (Placed other store link ∷ log) = (other ≢ node) × Unplaced node log

-- each node is placed at most once
abbrev pub Once : List Event → Type 0
Once [] = Unit {0}
Once (Opened seats groups ∷ log) = Once log
Once (Asks seat count ∷ log) = Once log
Once (Named node store link ∷ log) = Once log
Once (Placed node store link ∷ log) = Unplaced node log × Once log
