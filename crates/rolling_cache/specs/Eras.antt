-- What came before a generation: of each earlier one, what it handed on.
use Rattle.std.specs.Prelude.{◌≡◌, ℕ, ◌+◌, ◌<◌, List, [], ◌∷◌, ◌++◌, drop, length, map}
use Rattle.std.specs.Prelude.{true}
use mathlib.Core.List.{IsPrefix}
use Rattle.dns_answers.specs.Values.{AnswerValue}
use Rattle.dns_message.specs.Questions.{same_question}
use Rattle.dns_message.specs.declared.question.Question.{Question}
use Rattle.answer_log.specs.declared.store.Store.{Store}
use Rattle.answer_cache.specs.Carried.{CarriedView, IsCarried, carried_stores, unseated}
use Rattle.answer_cache.specs.Seats.{Offer}
use Rattle.answer_cache.specs.Shared.{NoticeView}

-- What a generation handed on: its cache and the history that the seat saw which carried, and what
-- it carried.
pub record Era : Type 0 where
  pub told : NoticeView
  pub carried : CarriedView

-- the era of a generation, by what was told of its cache and by what it carried
abbrev pub era_of : NoticeView → CarriedView → Era
era_of told carried = record { told = told; carried = carried }

-- what a generation after these begins with, the newest era first
abbrev pub begun_with : List Era → List Offer
begun_with [] = []
begun_with (era ∷ older) = era.carried.offers

-- what was handed in to be stored in the generation after these, as far as a seat has seen it
abbrev pub handed_to : List Era → List Store → List Offer
handed_to past seen = map unseated (drop (length (begun_with past)) seen)

-- what was handed in to be stored in these generations, as far as their eras show it
abbrev pub handed_before : List Era → List Offer
handed_before [] = []
handed_before (era ∷ older) = handed_before older ++ handed_to older era.told.seen

-- what was handed in to be stored in these generations or the one after them, as far as a seat has
-- seen it
abbrev pub handed_in : List Era → List Store → List Offer
handed_in past seen = handed_before past ++ handed_to past seen

-- A generation that began with these handed on what lived, at some moment, of the history that its
-- era shows.
pub record HandsOn (begun : List Offer) (era : Era) : Type 0 where
  pub begins : IsPrefix (carried_stores begun) era.told.seen
  pub before : List Store
  pub moment : ℕ
  pub carried : IsCarried before era.told.seen moment era.carried

-- each generation began with what the one before it handed on, and the first one with nothing
abbrev pub Descends : List Era → Type 0
Descends [] = Unit {0}
Descends (era ∷ older) = HandsOn (begun_with older) era × Descends older

-- a store of the question, with this answer, which lives at the moment (RFC 1035 3.2.1)
pub record Gives (question : Question) (now : ℕ) (answer : AnswerValue)
    (offer : Offer) : Type 0 where
  pub asked : same_question offer.question question ≡ true
  pub is : offer.answer ≡ answer
  pub lives : now < offer.moment + offer.answer.life
