-- How a list of stores is kept: the entries in the order of time, and of each group the marks of
-- its entries.
use Rattle.std.specs.Prelude.{◌≡◌, ℕ, ◌<◌, ◌==◌, ◌⊎◌, List, [], ◌∷◌, ◌++◌, length, map}
use Rattle.std.specs.Prelude.{false, true}
use Rattle.std.specs.Prelude.{Option, Some, None, slice_index_or}
use Rattle.std.specs.Arc.{arc_value}
use Rattle.std.specs.List.{enumerate_from, filter}
use Rattle.std.specs.declared.vec.Vec.{Vec}
use Rattle.dns_message.specs.Questions.{same_question}
use Rattle.dns_message.specs.declared.question.Question.{Question}
use Rattle.answer_log.specs.Groups.{group_in, hash_of, hashed_of}
use Rattle.answer_log.specs.Histories.{IsHistory}
use Rattle.answer_log.specs.declared.store.Store.{Store}
use Rattle.answer_cache.specs.Carried.{has_question}
use Rattle.answer_cache.specs.Lists.{IsGroupCount}
use Rattle.answer_cache.specs.declared.carried.Entry.{Entry}
use Rattle.answer_cache.specs.declared.store_list.Mark.{Mark}

abbrev pub store_in : Entry → Store
store_in entry =
    record {
      seat = 0;
      question = entry.question;
      answer = arc_value entry.answer;
      moment = entry.moment;
    }

abbrev pub stores_in : List Entry → List Store
stores_in entries = map store_in entries

-- the mark of an entry at a place
abbrev pub mark_of : ℕ × Entry → Mark
mark_of it = record { hash = hash_of (hashed_of it.1.question); place = it.0 }

-- the marks of the entries of a group, one of so many, in the order of time, where the first entry
-- has this place
abbrev pub marks_from : ℕ → ℕ → ℕ → List Entry → List Mark
marks_from groups group first entries =
    map mark_of
    (filter (λ it. group_in groups it.1.question == group) (enumerate_from first entries))

abbrev pub marks_of : ℕ → ℕ → List Entry → List Mark
marks_of groups group entries = marks_from groups group 0 entries

-- There is a list of marks for each of so many groups, or there is none yet, and then there is no
-- entry.
pub record IsKept {Z : Type 0} (groups : ℕ) (entries : List Entry)
    (marks : List (Vec Mark Z)) : Type 0 where
  pub count : IsGroupCount groups
  pub history : IsHistory groups (stores_in entries)
  pub size : (length marks ≡ groups) ⊎ ((length marks ≡ 0) × (entries ≡ []))
  pub each : (group : ℕ) (other : Vec Mark Z) → group < length marks
      → (slice_index_or marks group other).items ≡ marks_of groups group entries

-- what contracts see of a list of stores: of how many groups it is, and its stores
pub record StoresView : Type 0 where
  pub groups : ℕ
  pub stores : List Store

-- the list of these stores, of so many groups
abbrev pub stores_at : ℕ → List Store → StoresView
stores_at groups stores = record { groups = groups; stores = stores }

-- the last store of a question has this place
pub record IsLastAt (question : Question) (stores : List Store) (place : ℕ) : Type 0 where
  pub front : List Store
  pub store : Store
  pub back : List Store
  pub split : stores ≡ front ++ store ∷ back
  pub place_is : place ≡ length front
  pub asked : same_question store.question question ≡ true
  pub last : has_question question back ≡ false

-- the place of the last store of a question, if there is one
abbrev pub IsLastPlace : Question → List Store → Option ℕ → Type 0
IsLastPlace question stores None = has_question question stores ≡ false
IsLastPlace question stores (Some place) = IsLastAt question stores place
