-- What contracts see of a rolling cache, and what becomes of a seat where generations change.
use Rattle.std.specs.Prelude.{◌≡◌, ℕ, ◌+◌, ◌<◌, ◌⊎◌, List, [], ◌∷◌, ◌++◌}
use Rattle.std.specs.Prelude.{Bool, false, length, map, true}
use Rattle.std.specs.List.{All, Contains, range_with_len}
use mathlib.Core.List.{IsPrefix}
use Rattle.dns_message.specs.declared.question.Question.{Question}
use Rattle.answer_log.specs.Groups.{group_in}
use Rattle.answer_log.specs.Histories.{in_group}
use Rattle.answer_log.specs.declared.store.Store.{Store}
use Rattle.answer_cache.specs.Carried.{CarriedView, IsCarried, carried_stores, lives_at}
use Rattle.answer_cache.specs.Seats.{GoesOn, Offer, SeatView, StoresNothing}
use Rattle.answer_cache.specs.Shared.{Belongs, CacheView, SharedView, NoticeView}
use Rattle.rolling_cache.specs.Eras.{Era, begun_with, era_of}
use Rattle.rolling_cache.specs.declared.change.Change.{Change}
use Rattle.rolling_cache.specs.declared.change.Change.TheVariants.{Moved, Renewed, Stays}

-- what contracts see of a generation: its cache, and the eras before it, the newest first
pub record GenerationView : Type 0 where
  pub cache : CacheView
  pub past : List Era

abbrev pub generation_of : CacheView → List Era → GenerationView
generation_of cache past = record { cache = cache; past = past }

-- the cache of the oldest one of a generation with this cache and those before it
abbrev pub oldest : CacheView → List Era → CacheView
oldest cache [] = cache
oldest cache (era ∷ older) = oldest era.told.cache older

-- the cache of the first generation, by which contracts tell one rolling cache from another
abbrev pub root_of : GenerationView → CacheView
root_of generation = oldest generation.cache generation.past

-- the generation is one of the rolling cache whose first generation has this cache
abbrev pub IsOf : CacheView → GenerationView → Type 0
IsOf root generation = root_of generation ≡ root

-- the generation is a later one of the same rolling cache: more generations came before it
pub record IsLater (old new : GenerationView) : Type 0 where
  pub same : root_of new ≡ root_of old
  pub more : length old.past < length new.past

-- what contracts see of a rolling seat: the generation that it is at, its seat there, and whether
-- it has noted that the generation is to end
pub record RollingView : Type 0 where
  pub generation : GenerationView
  pub seat : SharedView
  pub ending : Bool

-- a rolling seat: that of this generation, which is this seat there, and has noted this
abbrev pub rolling_view : GenerationView → SharedView → Bool → RollingView
rolling_view generation seat ending =
    record { generation = generation; seat = seat; ending = ending }

-- a rolling seat that has noted nothing: that of this generation, which is this seat there
abbrev pub rolling_of : GenerationView → SharedView → RollingView
rolling_of generation seat = rolling_view generation seat false

-- the seat is of its generation, and has seen what that began with
pub record IsAt (it : RollingView) : Type 0 where
  pub here : Belongs it.generation.cache it.seat
  pub begins : IsPrefix (carried_stores (begun_with it.generation.past)) it.seat.seat.seen

-- the seat is of its generation, which is one of this rolling cache
pub record IsSeatOf (root : CacheView) (it : RollingView) : Type 0 where
  pub at : IsAt it
  pub of : IsOf root it.generation

-- the seat has seen what its generation began with and no more, was handed nothing, and has noted
-- nothing
pub record IsFresh (it : RollingView) : Type 0 where
  pub at : IsAt it
  pub seen : it.seat.seat.seen ≡ carried_stores (begun_with it.generation.past)
  pub offered : it.seat.seat.offered ≡ []
  pub ending : it.ending ≡ false

-- the same, and this is its generation
pub record IsFreshAt (generation : GenerationView) (it : RollingView) : Type 0 where
  pub fresh : IsFresh it
  pub here : it.generation ≡ generation

-- the seat is fresh, and its generation is the first one
pub record IsFirst (it : RollingView) : Type 0 where
  pub fresh : IsFresh it
  pub first : it.generation.past ≡ []

-- the seat is fresh, and its generation is one of this rolling cache, before which more came than
-- before the other one
pub record IsFreshAfter (root : CacheView) (generation : GenerationView)
    (it : RollingView) : Type 0 where
  pub fresh : IsFresh it
  pub of : IsOf root it.generation
  pub more : length generation.past < length it.generation.past

-- the generation of the seat is of so many groups
abbrev pub IsOfGroups : ℕ → RollingView → Type 0
IsOfGroups groups it = it.generation.cache.groups ≡ groups

-- the seat is at its generation, whose history goes on, and it has stored nothing
pub record Waits (old new : RollingView) : Type 0 where
  pub generation : new.generation ≡ old.generation
  pub goes_on : GoesOn old.seat.seat new.seat.seat
  pub stores_nothing : StoresNothing old.seat.seat new.seat.seat
  pub ending : new.ending ≡ old.ending

-- how many stores that a group has end its generation: 112 of the 128 that it can have
abbrev pub stores_to_end : ℕ
stores_to_end = 112

-- during the call, a history was seen in which the question's group had fewer stores than that
pub record HasSeenFew (question : Question) (old new : SeatView) : Type 0 where
  pub seen : List Store
  pub later : IsPrefix old.seen seen
  pub earlier : IsPrefix seen new.seen
  pub few : length (in_group old.groups (group_in old.groups question) seen) < stores_to_end

-- What a store tells of the end of its generation. A seat that had noted that it is to end goes on
-- to note it. One that has not noted it afterwards has seen few stores in the question's group.
pub record TellsEnd (question : Question) (old new : RollingView) : Type 0 where
  pub still : old.ending ≡ true → new.ending ≡ true
  pub few : new.ending ≡ false → HasSeenFew question old.seat.seat new.seat.seat

-- The new generation begins with what was carried of the old one at the moment: of each group what
-- lived then of a history that goes on with what the seat had seen. It has as many groups.
pub record HandsOver (now : ℕ) (old new : RollingView) : Type 0 where
  pub seen : List Store
  pub handed : CarriedView
  pub carried : IsCarried old.seat.seat.seen seen now handed
  pub told : NoticeView
  pub past : new.generation.past ≡ era_of told handed ∷ old.generation.past
  pub was : handed.groups ≡ old.generation.cache.groups
  pub groups : new.generation.cache.groups ≡ old.generation.cache.groups
  pub cache : told.cache ≡ old.generation.cache
  pub is : told.seen ≡ seen

-- one of what was offered is stored again, as it was, while its answer lives
pub record IsStoredAgain (now : ℕ) (offered : List Offer) (offer : Offer) : Type 0 where
  pub was : Contains offered offer
  pub lives : lives_at now offer ≡ true

-- nothing more is offered, or what lives at the moment is
abbrev pub AddsIfLives : ℕ → Offer → List Offer → List Offer → Type 0
AddsIfLives now offer old new =
    (new ≡ old) ⊎ ((lives_at now offer ≡ true) × (new ≡ old ++ offer ∷ []))

-- The seat has gone over to a later generation of the same rolling cache, and goes on from a fresh
-- seat there. What it was handed to store there is what it was handed before, and lives.
pub record MovesOn (now : ℕ) (old new : RollingView) : Type 0 where
  pub fresh : SharedView
  pub is : IsFresh (rolling_of new.generation fresh)
  pub goes_on : GoesOn fresh.seat new.seat.seat
  pub at : IsAt new
  pub later : IsLater old.generation new.generation
  pub again : All (IsStoredAgain now old.seat.seat.offered) new.seat.seat.offered

-- what became of a seat that was to catch up
abbrev pub Changes : ℕ → RollingView → RollingView → Change → Type 0
Changes now old new Stays = new ≡ old
Changes now old new Moved = MovesOn now old new
Changes now old new Renewed = IsFresh new × HandsOver now old new

-- what contracts see of the present generation: it, and the seats there that are left
pub record PresentView : Type 0 where
  pub generation : GenerationView
  pub left : ℕ

abbrev pub present_of : GenerationView → ℕ → PresentView
present_of generation left = record { generation = generation; left = left }

-- the seats that are left at a generation are fresh, and as many as the number of the last one
-- given out: their numbers are the ones below that
pub record AreLeft (generation : GenerationView) (seats : List SharedView) : Type 0 where
  pub fresh : All (λ seat. IsFresh (rolling_of generation seat)) seats
  pub numbers : map (λ seat. seat.seat.number) seats ≡ range_with_len 0 (length seats)

-- The seat is given out: it is the last one of those that were left, and has their highest number.
-- The others stay.
pub record GivesOut (old new : PresentView) (it : RollingView) : Type 0 where
  pub fresh : IsFresh it
  pub here : it.generation ≡ old.generation
  pub same : new.generation ≡ old.generation
  pub number : it.seat.seat.number ≡ new.left
  pub left : old.left ≡ new.left + 1
