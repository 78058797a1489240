-- What a seat remembers of the nodes of a group.
use Rattle.std.specs.Prelude.{◌≡◌, ℕ, List, [], ◌∷◌, ◌++◌}
use Rattle.std.specs.List.{All}
use Rattle.logbook.specs.Pages.{Book}
use Rattle.answer_log.specs.Groups.{hash_of, hashed_of}
use Rattle.answer_log.specs.Handles.{IsPlaced}
use Rattle.answer_log.specs.Histories.{in_group}
use Rattle.answer_log.specs.Logs.{history, top}
use Rattle.answer_log.specs.declared.event.Event.{Event}
use Rattle.answer_log.specs.declared.store.Store.{Store}
use Rattle.answer_cache.specs.declared.index.Index.{Index}
use Rattle.answer_cache.specs.declared.index.IndexEntry.{IndexEntry}

-- the node of the entry was placed for the store, and its hash is that of the store's question
pub record Tells (log : List Event) (entry : IndexEntry) (store : Store) : Type 0 where
  pub placed : IsPlaced log entry.node store
  pub hash : entry.hash ≡ hash_of (hashed_of store.question)

-- each entry tells a store, in their order
abbrev pub TellsAll : List Event → List IndexEntry → List Store → Type 0
TellsAll log [] [] = Unit {0}
TellsAll log [] (store ∷ stores) = ⊥
TellsAll log (entry ∷ entries) [] = ⊥
TellsAll log (entry ∷ entries) (store ∷ stores) =
    Tells log entry store × TellsAll log entries stores

-- the node of the last entry; the one given where there is none
abbrev pub top_from : ℕ → List IndexEntry → ℕ
top_from last [] = last
top_from last (entry ∷ entries) = top_from entry.node entries

-- the node of the last entry, 0 where there is none
abbrev pub top_of : List IndexEntry → ℕ
top_of entries = top_from 0 entries

-- the entries tell the stores that a group, one of so many, had at some moment
pub record IsIndex (groups : ℕ) (book : Book) (it : Index) : Type 0 where
  pub same : it.seen.book ≡ book
  pub group : ℕ
  pub front : List Event
  pub back : List Event
  pub split : it.seen.log ≡ front ++ back
  pub at : top_of it.entries.items ≡ top groups group front
  pub tells : TellsAll it.seen.log it.entries.items (in_group groups group (history front))

-- what a seat remembers, of some of so many groups
abbrev pub AreIndexes : ℕ → Book → List Index → Type 0
AreIndexes groups book indexes = All (IsIndex groups book) indexes
