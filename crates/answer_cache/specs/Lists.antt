-- What a list of stores takes, where no other seat is there.
use Rattle.std.specs.Prelude.{◌≡◌, ℕ, ◌<◌, ◌≤◌, IsTrue, List, [], ◌∷◌, ◌++◌}
use Rattle.std.specs.Int.{is_power_of_two}
use Rattle.answer_log.specs.Histories.{IsFull}
use Rattle.answer_log.specs.declared.store.Store.{Store}
use Rattle.answer_cache.specs.Seats.{Offer, SeatView, IsSeat, store_of}
use Rattle.answer_cache.specs.declared.refusal.StoreRefusal.{StoreRefusal}
use Rattle.answer_cache.specs.declared.refusal.StoreRefusal.TheVariants.{Lifeless, GenerationFull}
use Rattle.answer_cache.specs.declared.refusal.StoreRefusal.TheVariants.{Contended, Memory}

-- a store of the one seat, which is 0
abbrev pub own_store : Offer → Store
own_store offer = record {
  seat = 0;
  question = offer.question;
  answer = offer.answer;
  moment = offer.moment;
}

-- of how many groups a list can be: a power of two from 64 to 65,536
pub record IsGroupCount (groups : ℕ) : Type 0 where
  pub least : 64 ≤ groups
  pub most : groups ≤ 65536
  pub power : IsTrue (is_power_of_two groups)

-- what the seat of a list of so many groups has seen: all stores are its own
abbrev pub seat_at : ℕ → List Store → List Offer → SeatView
seat_at groups history offered =
    record { number = 0; seen = history; own = history; offered = offered; groups = groups }

-- what holds of the seat of a list: what it has seen is what it stored
pub record IsListSeat (seat : SeatView) : Type 0 where
  pub is : IsSeat seat
  pub own : seat.own ≡ seat.seen

-- a seat after it was handed one thing more
abbrev pub offered_too : SeatView → Offer → SeatView
offered_too seat offer = record seat { offered = seat.offered ++ offer ∷ [] }

-- a seat after it was handed one thing more, which it stored
abbrev pub stored_too : SeatView → Offer → SeatView
stored_too seat offer = record seat {
  seen = seat.seen ++ store_of seat offer ∷ [];
  own = seat.own ++ store_of seat offer ∷ [];
  offered = seat.offered ++ offer ∷ [];
}

-- the answer lives, and there is room in the question's group, one of so many
abbrev pub Takes : ℕ → List Store → Offer → Type 0
Takes groups history offer = (0 < offer.answer.life) × (IsFull groups history offer.question → ⊥)

-- where each refusal comes, and it comes exactly there; memory is needed only for what would be
-- taken
abbrev pub Refuses : ℕ → List Store → Offer → StoreRefusal → Type 0
Refuses groups history offer Lifeless = offer.answer.life ≡ 0
Refuses groups history offer GenerationFull =
    (0 < offer.answer.life) × IsFull groups history offer.question
Refuses groups history offer Contended = ⊥
Refuses groups history offer Memory = Takes groups history offer
