-- What contracts see of a seat, and how a call changes it.
use Rattle.std.specs.Prelude.{◌≡◌, ℕ, ◌+◌, ◌<◌, ◌≤◌, List, [], ◌∷◌, ◌++◌, length}
use mathlib.Core.List.{IsPrefix}
use Rattle.dns_answers.specs.Values.{AnswerValue}
use Rattle.dns_message.specs.declared.question.Question.{Question}
use Rattle.answer_log.specs.Groups.{group_in}
use Rattle.answer_log.specs.Histories.{IsFull, IsHistory, in_group, mine}
use Rattle.answer_log.specs.declared.store.Store.{Store}
use Rattle.answer_cache.specs.declared.refusal.StoreRefusal.{StoreRefusal}
use Rattle.answer_cache.specs.declared.refusal.StoreRefusal.TheVariants.{Lifeless, GenerationFull}
use Rattle.answer_cache.specs.declared.refusal.StoreRefusal.TheVariants.{Contended, Memory}

-- what a call that stores was handed, whatever it answered
pub record Offer : Type 0 where
  pub question : Question
  pub answer : AnswerValue
  pub moment : ℕ

-- what was handed to a cache: a question, its answer and the moment
abbrev pub offer_of : Question → AnswerValue → ℕ → Offer
offer_of question answer moment = record { question = question; answer = answer; moment = moment }

-- what contracts see of a seat: its number, the history that it has seen, its own stores, what its
-- stores were handed, and of how many groups the book is
pub record SeatView : Type 0 where
  pub number : ℕ
  pub seen : List Store
  pub own : List Store
  pub offered : List Offer
  pub groups : ℕ

-- what holds of each seat: its own stores are the ones of the history that are of this seat, once
-- each and in their order
pub record IsSeat (seat : SeatView) : Type 0 where
  pub own : mine seat.seen seat.number ≡ seat.own
  pub history : IsHistory seat.groups seat.seen

-- a call leaves the number of a seat and the groups of its book, and its history goes on
pub record GoesOn (old new : SeatView) : Type 0 where
  pub number : new.number ≡ old.number
  pub seen : IsPrefix old.seen new.seen
  pub groups : new.groups ≡ old.groups

-- a call stores nothing, and is handed nothing to store
pub record StoresNothing (old new : SeatView) : Type 0 where
  pub own : new.own ≡ old.own
  pub offered : new.offered ≡ old.offered

-- the store that a seat makes of what it was handed
abbrev pub store_of : SeatView → Offer → Store
store_of seat offer =
    record {
      seat = seat.number;
      question = offer.question;
      answer = offer.answer;
      moment = offer.moment;
    }

-- What was handed is the last store of the history. Before it, the history had no other store of
-- this seat than before the call, and the question's group was not full.
pub record IsStored (old new : SeatView) (offer : Offer) : Type 0 where
  pub lives : 0 < offer.answer.life
  pub before : List Store
  pub later : IsPrefix old.seen before
  pub others : mine before old.number ≡ old.own
  pub room : IsFull old.groups before offer.question → ⊥
  pub last : new.seen ≡ before ++ store_of old offer ∷ []
  pub own : new.own ≡ old.own ++ store_of old offer ∷ []

-- why what was handed is not stored; it does not live exactly where its life is 0
abbrev pub WhyNot : SeatView → SeatView → Offer → StoreRefusal → Type 0
WhyNot old new offer Lifeless = offer.answer.life ≡ 0
WhyNot old new offer GenerationFull =
    (0 < offer.answer.life) × IsFull new.groups new.seen offer.question
-- 16 other stores came in between
WhyNot old new offer Contended = (0 < offer.answer.life) × (length old.seen + 16 ≤ length new.seen)
WhyNot old new offer Memory = 0 < offer.answer.life

-- the seat has stored nothing more, for this reason (`WhyNot`)
abbrev pub IsRefused : SeatView → SeatView → Offer → StoreRefusal → Type 0
IsRefused old new offer refusal = (new.own ≡ old.own) × WhyNot old new offer refusal

-- the group of the question has so many stores at least in the history that the seat has seen
abbrev pub GroupHas : ℕ → SeatView → Question → Type 0
GroupHas stores seat question =
    stores ≤ length (in_group seat.groups (group_in seat.groups question) seat.seen)

-- during the call, a history was seen in which the question's group, one of so many, was not full
pub record HasSeenRoom (groups : ℕ) (question : Question)
    (before after : List Store) : Type 0 where
  pub seen : List Store
  pub later : IsPrefix before seen
  pub earlier : IsPrefix seen after
  pub room : IsFull groups seen question → ⊥
