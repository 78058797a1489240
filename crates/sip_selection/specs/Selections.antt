-- A choice and the answers that it was given.
use Rattle.std.specs.Prelude.{◌≡◌, ◌<◌, ◌≤◌, ℕ, List, [], ◌∷◌, ◌++◌, length, slice_index_or, take}
use Rattle.std.specs.List.{All}
use Rattle.dns_answers.specs.Records.{count_of}
use Rattle.dns_answers.specs.Values.{AnswerValue}
use Rattle.dns_message.specs.declared.question.Question.{Question}
use Rattle.sip_selection.specs.Choice.{Resolution, locate, need}
use Rattle.sip_selection.specs.Known.{Given}
use Rattle.sip_selection.specs.declared.caps.Caps.{Caps}
use Rattle.sip_selection.specs.declared.request.Request.{Request}

-- what contracts see of a choice: the request, what the caller can use, the random words, and the
-- answers that it was given
pub record SelectionValue : Type 0 where
  pub request : Request
  pub caps : Caps
  pub words : List ℕ
  pub given : List Given

-- a choice that was given no answer
abbrev pub begun : Request → Caps → List ℕ → SelectionValue
begun request caps words = record { request = request; caps = caps; words = words; given = [] }

-- a choice that was given one answer more
abbrev pub given_too : SelectionValue → Question → AnswerValue → SelectionValue
given_too it question answer =
    record it { given = it.given ++ record { question = question; answer = answer } ∷ [] }

-- where the request goes now
abbrev pub now_of : SelectionValue → Resolution
now_of it = locate it.request it.caps it.words it.given

-- These answers were asked for one by one: each is to the question that was needed with the answers
-- before it, and has at most 32 records.
pub record AreAskedOneByOne (request : Request) (caps : Caps) (words : List ℕ)
    (given : List Given) : Type 0 where
  pub few : All (λ it. count_of it.answer.records ≤ 32) given
  pub needed : (k : ℕ) (it : Given) → k < length given
      → locate request caps words (take k given) ≡ need (slice_index_or given k it).question
