-- What a cache hands on to the one that comes after it, and what the seats of that one see.
use Rattle.std.specs.Prelude.{◌≡◌, ℕ, zero, suc, ◌+◌, ◌<◌, nat_lt, Bool, List, [], ◌∷◌, map}
use Rattle.std.specs.Prelude.{if◌then◌else◌}
use Rattle.std.specs.Arc.{arc_value}
use Rattle.std.specs.List.{filter, flat_map, list_any, range_with_len}
use mathlib.Core.List.{IsPrefix}
use Rattle.dns_message.specs.Questions.{same_question}
use Rattle.dns_message.specs.declared.question.Question.{Question}
use Rattle.answer_log.specs.Histories.{in_group}
use Rattle.answer_log.specs.declared.store.Store.{Store}
use Rattle.answer_cache.specs.Lists.{own_store}
use Rattle.answer_cache.specs.Seats.{Offer, SeatView, offer_of}
use Rattle.answer_cache.specs.declared.carried.Entry.{Entry}

-- what an entry holds: a question, its answer and the moment
abbrev pub offer_in : Entry → Offer
offer_in entry = offer_of entry.question (arc_value entry.answer) entry.moment

-- what entries hold, each a question, its answer and the moment
abbrev pub offers_in : List Entry → List Offer
offers_in entries = map offer_in entries

-- what is carried, as stores of seat 0
abbrev pub carried_stores : List Offer → List Store
carried_stores offers = map own_store offers

-- a store without its seat
abbrev pub unseated : Store → Offer
unseated store = offer_of store.question store.answer store.moment

-- one of the stores is of this question
abbrev pub has_question : Question → List Store → Bool
has_question question stores = list_any (λ store. same_question store.question question) stores

-- the stores that are the last of their question, in their order
abbrev pub last_stores : List Store → List Store
last_stores [] = []
last_stores (store ∷ later) =
    if has_question store.question later then last_stores later else store ∷ last_stores later

-- what was stored lives at a moment: its life is not over (RFC 1035 3.2.1)
abbrev pub lives_at : ℕ → Offer → Bool
lives_at now offer = nat_lt now (offer.moment + offer.answer.life)

-- the last store of each question that lives, in their order and without their seats
abbrev pub living_of : ℕ → List Store → List Offer
living_of now stores = filter (lives_at now) (map unseated (last_stores stores))

-- What is carried of the first ones of so many groups, from 0 on, by a seat that had seen one
-- history before and has seen another one afterwards: of each group the last stores of their
-- questions that live, at a history of its own. None of these is shorter than that of the group
-- before.
pub record IsCarriedOf (groups first : ℕ) (before after : List Store) (now : ℕ)
    (carried : List Offer) : Type 0 where
  pub history : ℕ → List Store
  pub from : (group : ℕ) → group < first → IsPrefix before (history group)
  pub next : (group : ℕ) → group + 1 < first → IsPrefix (history group) (history (group + 1))
  pub till : (group : ℕ) → group < first → IsPrefix (history group) after
  pub all : carried ≡ flat_map (λ group. living_of now (in_group groups group (history group)))
      (range_with_len 0 first)

-- what contracts see of what is carried: of how many groups it is, and its stores without their
-- seats
pub record CarriedView : Type 0 where
  pub groups : ℕ
  pub offers : List Offer

abbrev pub carried_view : ℕ → List Offer → CarriedView
carried_view groups offers = record { groups = groups; offers = offers }

-- what is carried at a moment, of all its groups (`IsCarriedOf`)
abbrev pub IsCarried : List Store → List Store → ℕ → CarriedView → Type 0
IsCarried before after now carried =
    IsCarriedOf carried.groups carried.groups before after now carried.offers

-- the own stores of a seat, where all are of seat 0
abbrev pub own_of : List Store → ℕ → List Store
own_of stores zero = stores
own_of stores (suc number) = []

-- a seat of a cache that begins with what was carried, and was handed nothing
abbrev pub seat_after : CarriedView → ℕ → SeatView
seat_after carried number =
    record {
      number = number;
      seen = carried_stores carried.offers;
      own = own_of (carried_stores carried.offers) number;
      offered = [];
      groups = carried.groups;
    }
