-- The answers that a locator gains from a book.
use Rattle.std.specs.Prelude.{◌≡◌, ℕ, Bool, true, false, List, Some, None, Result, Ok, Err}
use Rattle.std.specs.declared.alloc.AllocError.{AllocError}
use mathlib.Core.List.{IsPrefix}
use Rattle.dns_answers.specs.Values.{AnswerValue}
use Rattle.dns_message.specs.declared.question.Question.{Question}
use Rattle.sip_selection.specs.Choice.{Resolution, need}
use Rattle.sip_selection.specs.Nexts.{next_of}
use Rattle.sip_selection.specs.Selections.{SelectionValue, given_too, now_of}
use Rattle.sip_selection.specs.declared.selection.Next.{Next}
use Rattle.answer_log.specs.Histories.{cached}
use Rattle.answer_log.specs.declared.store.Store.{Store}

-- a history between two others: the first one goes on to it, and it goes on to the last one
pub record IsBetween (first last history : List Store) : Type 0 where
  pub after : IsPrefix first history
  pub before : IsPrefix history last

-- the question that was needed was answered from a history, and this answer counts now
pub record IsAnswered (old new : SelectionValue) (history : List Store) (now : ℕ) : Type 0 where
  pub question : Question
  pub answer : AnswerValue
  pub asked : now_of old ≡ need question
  pub found : cached history question now ≡ Some answer
  pub is : new ≡ given_too old question answer

-- One question after the other was answered, each from a history between these two, which goes on
-- to the history of the next one (RFC 3263 4).
pub data Gains (last : List Store) (now : ℕ) : List Store → SelectionValue → SelectionValue
    → Type 0 where
  nothing : {first : List Store} {old new : SelectionValue} → new ≡ old
      → Gains last now first old new
  one : {first : List Store} {old new : SelectionValue} (history : List Store)
      (middle : SelectionValue) → IsBetween first last history → IsAnswered old middle history now
      → Gains last now history middle new
      → Gains last now first old new

-- a history between these two held no answer to the question
pub record Lacks (first last : List Store) (now : ℕ) (question : Question) : Type 0 where
  pub history : List Store
  pub between : IsBetween first last history
  pub none : cached history question now ≡ None

-- ---- one look-up

-- the question that is needed was answered, or the history has no answer to it
abbrev pub LookedUp : SelectionValue → SelectionValue → List Store → ℕ → Bool → Type 0
LookedUp old new history now true = IsAnswered old new history now
LookedUp old new history now false =
    (new ≡ old)
    × ((question : Question) → now_of old ≡ need question → cached history question now ≡ None)

-- ---- all look-ups

-- With the answers gained, this is what is next. Where that is a question, the book lacked its
-- answer.
pub record IsNext (old new : SelectionValue) (first last : List Store) (now : ℕ)
    (resolution : Resolution) : Type 0 where
  pub gains : Gains last now first old new
  pub is : resolution ≡ now_of new
  pub lacks : (question : Question) → resolution ≡ need question → Lacks first last now question

-- a choice needs the answer to a question
abbrev pub IsAsking : Resolution → Type 0
IsAsking resolution = (question : Question) × (resolution ≡ need question)

-- memory was refused while a question was asked: the answers gained until then stay
pub record IsCutShort (old new : SelectionValue) (first last : List Store) (now : ℕ) : Type 0 where
  pub gains : Gains last now first old new
  pub asking : IsAsking (now_of new)

-- what a step leaves and gives, from the answers gained to what is next
abbrev pub Steps : SelectionValue → SelectionValue → List Store → List Store → ℕ
    → Result Next AllocError → Type 0
Steps old new first last now (Ok next) = IsNext old new first last now (next_of next)
Steps old new first last now (Err refusal) = IsCutShort old new first last now
