-- The rule of the log: what holds of its cells and its events at each moment.
use Rattle.std.specs.Prelude.{◌≡◌, ℕ, ◌+◌, ◌*◌, ◌<◌, ◌≤◌, true, List, map}
use Rattle.std.specs.List.{range_with_len}
use base.Stored.{Coded, coded×, coded_ℕ, coded_via}
use Rattle.logbook.specs.Pages.{Cell, cell, Book, book_coded, Named as Word}
use Rattle.answer_log.specs.Histories.{IsHistory}
use Rattle.answer_log.specs.Logs.{history, placed_of, top, Linked, In, Once, seats_in}
use Rattle.answer_log.specs.Logs.{groups_in}
use Rattle.answer_log.specs.declared.event.Event.{Event}
use Rattle.answer_log.specs.declared.event.Event.TheVariants.{Named, Placed}
use Rattle.answer_log.specs.declared.store.Store.{Store}

-- the number of a node, by its seat and its place on the shelf of that seat
abbrev pub node_at : ℕ → ℕ → ℕ
node_at seat place = 1 + seat + 64 * place

-- The first cells are the heads of the groups: each leads to the node of its group placed last. The
-- cell after them is idle, and holds 0.
pub record IsKept (cells : List Cell) (log : List Event) : Type 0 where
  pub seats : seats_in log ≤ 64
  pub groups : (64 ≤ groups_in log) × (groups_in log ≤ 65536)
  pub heads : (group : ℕ) → group < groups_in log
      → cell cells group ≡ (top (groups_in log) group log, true)
  pub idle : cell cells (groups_in log) ≡ (0, true)
  -- the chain of a group has its nodes alone
  pub linked : (group : ℕ) → Linked (groups_in log) cells 0 (placed_of (groups_in log) group log)
  -- what is placed was named so
  pub twins : (node : ℕ) (store : Store) (link : ℕ) → In (Placed node store link) log
      → In (Named node store link) log
  pub named : (node : ℕ) (store : Store) (link : ℕ) → In (Named node store link) log
      → (store.seat < seats_in log) × ((place : ℕ) × (node ≡ node_at store.seat place))
  -- a node has one store and one link
  pub unique : (node : ℕ) (store other : Store) (link link' : ℕ) → In (Named node store link) log
      → In (Named node other link') log → (store ≡ other) × (link ≡ link')
  pub once : Once log
  pub history : IsHistory (groups_in log) (history log)

-- what contracts see of a log: which book it is, and how many groups it has
pub record LogView : Type 0 where
  pub book : Book
  pub groups : ℕ

abbrev pub log_view : Book → ℕ → LogView
log_view book groups = record { book = book; groups = groups }

abbrev pub log_coded : Coded LogView
log_coded = coded_via (coded× book_coded coded_ℕ) (λ (it : LogView). (it.book, it.groups))
    (λ x y e i. log_view (e i).0 (e i).1)

-- the word of a book that a key names
abbrev pub word_at : Book → ℕ → Word
word_at book key = record { tracked = true; key = key; book = book }

-- the heads of the first groups
abbrev pub heads_of : Book → ℕ → List Word
heads_of book count = map (word_at book) (range_with_len 0 count)
