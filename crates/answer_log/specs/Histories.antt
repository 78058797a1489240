-- What a history of stores answers. It is one list in the order of time, the oldest store first.
use Rattle.std.specs.Prelude.{◌≡◌, ℕ, ◌+◌, ◌<◌, ◌≤◌, ◌==◌, nat_lt, List, length}
use Rattle.std.specs.Prelude.{Option, Some, None, option_and_then, if◌then◌else◌}
use Rattle.std.specs.List.{All, filter, last_or}
use Rattle.dns_answers.specs.Records.{kind_of}
use Rattle.dns_answers.specs.Values.{AnswerValue}
use Rattle.dns_message.specs.Questions.{same_question}
use Rattle.dns_message.specs.declared.question.Question.{Question}
use Rattle.answer_log.specs.Groups.{group_in, group_limit}
use Rattle.answer_log.specs.declared.store.Store.{Store}

-- the stores of a question
abbrev pub stores_of : Question → List Store → List Store
stores_of question history = filter (λ store. same_question store.question question) history

-- the answer of a store, until as many seconds after it as its life is (RFC 1035 3.2.1)
abbrev pub living : ℕ → Store → Option AnswerValue
living now store = if nat_lt now (store.moment + store.answer.life) then Some store.answer else None

-- the answer of the last store of a question; none where that has expired, or there is none (RFC
-- 1035 7.4)
abbrev pub cached : List Store → Question → ℕ → Option AnswerValue
cached history question now =
    option_and_then (living now) (last_or None (stores_of question history))

-- the stores whose questions are in a group, one of so many
abbrev pub in_group : ℕ → ℕ → List Store → List Store
in_group groups group history = filter (λ store. group_in groups store.question == group) history

-- the group of the question, one of so many, has as many stores as it can have
abbrev pub IsFull : ℕ → List Store → Question → Type 0
IsFull groups history question =
    group_limit ≤ length (in_group groups (group_in groups question) history)

-- the stores of a seat
abbrev pub mine : List Store → ℕ → List Store
mine history seat = filter (λ store. store.seat == seat) history

-- a store is sound: its answer lives, and is of its question's kind
abbrev pub IsSound : Store → Type 0
IsSound store = (0 < store.answer.life) × (kind_of store.answer.records ≡ store.question.kind)

-- each store is sound, and none of so many groups has more than its limit
pub record IsHistory (groups : ℕ) (history : List Store) : Type 0 where
  pub sound : All IsSound history
  pub few : (group : ℕ) → length (in_group groups group history) ≤ group_limit
