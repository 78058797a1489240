-- What a seat has at the log, and how that goes on.
use Rattle.std.specs.Prelude.{◌≡◌, ◌≢◌, ℕ, ◌+◌, ◌<◌, ◌≤◌, List, [], ◌∷◌, ◌++◌}
use Rattle.std.specs.List.{All}
use mathlib.Core.List.{IsPrefix}
use Rattle.logbook.specs.Pages.{Book, Named as Word}
use Rattle.answer_log.specs.Counts.{count}
use Rattle.answer_log.specs.Histories.{IsHistory, in_group, mine}
use Rattle.answer_log.specs.Logs.{groups_in, history, In, seats_in, top}
use Rattle.answer_log.specs.Rules.{word_at}
use Rattle.answer_log.specs.Spending.{Spending, nothing}
use Rattle.answer_log.specs.Steps.{Fits, NamesBelow}
use Rattle.answer_log.specs.declared.event.Event.{Event}
use Rattle.answer_log.specs.declared.event.Event.TheVariants.{Named, Opened, Placed}
use Rattle.answer_log.specs.declared.handle.Handle.{Handle}
use Rattle.answer_log.specs.declared.handle.Handles.{Handles}
use Rattle.answer_log.specs.declared.store.Store.{Store}

-- what the calls of a handle have spent
abbrev pub spent_of : Handle → Spending
spent_of handle = handle.spent

-- The seat is one of those that the log was opened for, with so many groups. It has the count of
-- its events in what it has seen, and its nodes are below the next place.
pub record IsHandle (handle : Handle) : Type 0 where
  pub seats : seats_in handle.book.log ≡ handle.seats
  pub groups : groups_in handle.book.log ≡ handle.groups
  pub group_count : (64 ≤ handle.groups) × (handle.groups ≤ 65536)
  pub below : handle.number < handle.seats
  pub fits : Fits handle.tally handle.book.names handle.number
  pub counted : count handle.number handle.book.log ≡ handle.tally.count
  pub names : NamesBelow handle.number handle.node_count handle.book.log

-- a seat has seen nothing
pub record IsNew (handle : Handle) (new_book : Book) (seat seats groups : ℕ) : Type 0 where
  pub is : IsHandle handle
  pub book : handle.book.book ≡ new_book
  pub number : handle.number ≡ seat
  pub count : handle.seats ≡ seats
  pub group_count : handle.groups ≡ groups
  pub node_count : handle.node_count ≡ 0
  pub spent : spent_of handle ≡ nothing
  pub log : handle.book.log ≡ Opened seats groups ∷ []

-- the handle has what it had before, but for what it has spent
pub record IsSame (old new : Handle) : Type 0 where
  pub handle : IsHandle new
  pub number : new.number ≡ old.number
  pub seats : new.seats ≡ old.seats
  pub groups : new.groups ≡ old.groups
  pub node_count : new.node_count ≡ old.node_count
  pub book : new.book ≡ old.book

-- what there is left for the seats from the next one on
pub record AreHandles (handles : Handles) : Type 0 where
  pub tallies : handles.tallies.name ∷ [] ≡ handles.seen.names
  pub next : handles.tallies.next ≡ handles.next
  pub left : handles.tallies.left + handles.next ≡ 64
  pub few : handles.seats ≤ 64
  pub group_count : (64 ≤ handles.groups) × (handles.groups ≤ 65536)
  pub log : handles.seen.log ≡ Opened handles.seats handles.groups ∷ []

-- the log names the node so
pub record IsNamed (book : Book) (log : List Event) (node : ℕ) (store : Store)
    (word : Word) : Type 0 where
  pub link : word ≡ word_at book word.key
  pub named : In (Named node store word.key) log

-- the node was placed for the store
abbrev pub IsPlaced : List Event → ℕ → Store → Type 0
IsPlaced log node store = (link : ℕ) × In (Placed node store link) log

-- a seat has seen more of the log, and no store more of its own
pub record SeesMore (seat : ℕ) (before after : List Event) : Type 0 where
  pub later : IsPrefix before after
  pub stores : IsPrefix (history before) (history after)
  pub own : mine (history after) seat ≡ mine (history before) seat
  pub names : (book : Book) (node : ℕ) (store : Store) (word : Word)
      → IsNamed book before node store word → IsNamed book after node store word

-- the history ends with the store, and before it no store of the seat's own is new
pub record EndsWith (store : Store) (before after : List Store) : Type 0 where
  pub front : List Store
  pub last : after ≡ front ++ store ∷ []
  pub later : IsPrefix before front
  pub own : mine front store.seat ≡ mine before store.seat

-- What holds of each log that was seen: each store of its history is sound and of one of its seats,
-- no group has more than 128 stores, no placed node has the number 0, and the node of a group
-- placed last tells which stores the group had by then.
pub record IsLog (log : List Event) : Type 0 where
  -- each store is of a seat that the log was opened for
  pub seats : All (λ store. store.seat < seats_in log) (history log)
  -- 0 is the number of no node
  pub nodes : (before after : List Event) (node : ℕ) (store : Store) (link : ℕ)
      → log ≡ before ++ Placed node store link ∷ after → node ≢ 0
  -- the node of a group placed last tells which stores the group had by then
  pub tops : (front other : List Event) (group group' : ℕ) → IsPrefix front log
      → IsPrefix other log → top (groups_in log) group front ≡ top (groups_in log) group' other
      → in_group (groups_in log) group (history front)
      ≡ in_group (groups_in log) group' (history other)
  pub history : IsHistory (groups_in log) (history log)
