-- What a resolver does at a seat.
use Rattle.std.specs.Prelude.{◌≡◌, ◌⊎◌, ℕ, List, [], ◌∷◌, ◌++◌}
use Rattle.std.specs.List.{All}
use Rattle.answer_log.specs.declared.store.Store.{Store}
use Rattle.answer_cache.specs.Seats.{GoesOn, Offer, SeatView, StoresNothing, offer_of, store_of}
use Rattle.dns_answers.specs.Values.{AnswerValue}
use Rattle.dns_queries.specs.declared.incoming.Ending.{Ending}
use Rattle.dns_queries.specs.declared.incoming.Ending.TheVariants.{Answered, Faulty}
use Rattle.dns_message.specs.declared.question.Question.{Question}
use Rattle.sip_resolver.specs.Outcomes.{IsReplied}

-- the answer of a reply, at a moment that the clock showed
abbrev pub IsHeard : (List ℕ → Type 0) → (ℕ → Type 0) → Offer → Type 0
IsHeard gives shows offer = IsReplied gives offer.question offer.answer × shows offer.moment

-- what a store holds: a question, its answer and the moment
abbrev pub offer_in : Store → Offer
offer_in store = offer_of store.question store.answer store.moment

-- A seat goes on with the history, and hands to the book what replies had and nothing else. So each
-- store that it makes is the answer of a reply.
pub record Works (gives : List ℕ → Type 0) (shows : ℕ → Type 0) (old new : SeatView)
    : Type 0 where
  pub goes_on : GoesOn old new
  pub offers : List Offer
  pub offered : new.offered ≡ old.offered ++ offers
  pub heard : All (IsHeard gives shows) offers
  pub stores : List Store
  pub own : new.own ≡ old.own ++ stores
  pub kept : All (λ store. IsHeard gives shows (offer_in store)) stores

-- what is handed to the book is this answer to this question, and it stores that or nothing
abbrev pub Hands : Question → AnswerValue → ℕ → SeatView → SeatView → Type 0
Hands question answer now old new =
    (new.offered ≡ old.offered ++ offer_of question answer now ∷ [])
    × ((new.own ≡ old.own)
    ⊎ (new.own ≡ old.own ++ store_of old (offer_of question answer now) ∷ []))

-- this answer is handed to the book, or nothing is for want of memory
abbrev pub MayHand : Question → AnswerValue → ℕ → SeatView → SeatView → Type 0
MayHand question answer now old new =
    StoresNothing old new ⊎ Hands question answer now old new

-- what is handed to the book as the wait for the reply to this question ends: its answer alone
abbrev pub HandsBy : Question → Ending → ℕ → SeatView → SeatView → Type 0
HandsBy question (Answered found) now old new = MayHand question found now old new
HandsBy question (Faulty refusal) now old new = StoresNothing old new

-- at most one thing is handed to the book
abbrev pub IsAtMostOne : SeatView → SeatView → Type 0
IsAtMostOne old new =
    (new.offered ≡ old.offered) ⊎ ((offer : Offer) × (new.offered ≡ old.offered ++ offer ∷ []))
