-- Stores that are stored again.
use Rattle.std.proofs.Common.{◌≡◌, ◌++◌, inl, inr, ℕ, Bool, true, false, if◌then◌else◌, ◌<◌, length, slice_index_or, List, [], ◌∷◌, ap, sym, subst, ◌∙◌}
use Rattle.std.proofs.lemmas.List.Elements.{All-push, Contains-append_left, Contains-push}
use Rattle.std.specs.List.{All, Contains}
use Rattle.answer_cache.proofs.Placing.{prefix-trans}
use Rattle.answer_cache.specs.Seats.{GoesOn, Offer, SeatView}
use Rattle.rolling_cache.specs.Rolling.{AddsIfLives, GenerationView, IsAt, IsFresh, IsLater, IsStoredAgain, MovesOn, RollingView, rolling_of, rolling_view}

pub late-same : (old new late : List Offer) → new ≡ old → All (Contains old) late → All (Contains new) late
late-same old new late is all =
    let A : List Offer → Type 0 = λ offered. All (Contains offered) late in
    subst A (sym is) all

pub late-more : (old new late : List Offer) (one : Offer) → new ≡ old ++ one ∷ [] → All (Contains old) late
    → All (Contains new) late
late-more old new late one is all =
    let A : List Offer → Type 0 = λ offered. All (Contains offered) late in
    subst A (sym is) (λ k d low. Contains-append_left old (one ∷ []) _ (all k d low))

pub late-push : (offered late more : List Offer) (one : Offer) (pushed : Bool) → more ≡ (if pushed then late ++ one ∷ [] else late)
    → All (Contains offered) late → Contains offered one → All (Contains offered) more
late-push offered late more one true is all has =
    let A : List Offer → Type 0 = λ stores. All (Contains offered) stores in
    subst A (sym is) (All-push (Contains offered) late one all has)
late-push offered late more one false is all has =
    let A : List Offer → Type 0 = λ stores. All (Contains offered) stores in
    subst A (sym is) all

pub late-at : (offered late items : List Offer) (k : ℕ) (one : Offer) → items ≡ late → one ≡ slice_index_or items k one
    → k < length items → All (Contains offered) late → Contains offered one
late-at offered late items k one are is low all =
    let A : List Offer → Type 0 = λ stores. All (Contains offered) stores in
    let C : Offer → Type 0 = λ it. Contains offered it in
    let here : All (Contains offered) items = subst A (sym are) all in
    subst C (sym is) (here k one low)

pub offered-last : (old new : List Offer) (one : Offer) → new ≡ old ++ one ∷ [] → Contains new one
offered-last old new one is =
    let C : List Offer → Type 0 = λ offered. Contains offered one in
    subst C (sym is) (Contains-push old one)

pub goes-on-trans : (old mid new : SeatView) → GoesOn old mid → GoesOn mid new → GoesOn old new
goes-on-trans old mid new one two = record {
  number = two.number ∙ one.number;
  seen = prefix-trans old.seen mid.seen new.seen one.seen two.seen;
  groups = two.groups ∙ one.groups;
}

-- where one of what was handed before is stored again, or is not
pub again-more : (now : ℕ) (before old new : List Offer) (one : Offer) → AddsIfLives now one old new
    → Contains before one → All (IsStoredAgain now before) old → All (IsStoredAgain now before) new
again-more now before old new one (inl is) was all =
    let A : List Offer → Type 0 = λ offered. All (IsStoredAgain now before) offered in
    subst A (sym is) all
again-more now before old new one (inr (lives, is)) was all =
    let A : List Offer → Type 0 = λ offered. All (IsStoredAgain now before) offered in
    subst A (sym is)
    (All-push (IsStoredAgain now before) old one all (record { was = was; lives = lives }))

pub moves-on : (now : ℕ) (old next taken before new : RollingView) → taken ≡ next → before ≡ old → IsFresh next
    → IsLater old.generation next.generation → IsAt new → new.generation ≡ taken.generation
    → GoesOn taken.seat.seat new.seat.seat → All (IsStoredAgain now before.seat.seat.offered) new.seat.seat.offered
    → MovesOn now old new
moves-on now old next taken before new is was fresh later at here goes again =
    let there : new.generation ≡ next.generation = here ∙ ap (λ (it : RollingView). it.generation) is in
    let F : GenerationView → Type 0 = λ generation. IsFresh (rolling_of generation next.seat) in
    let E : Bool → Type 0 = λ ending. IsFresh (rolling_view next.generation next.seat ending) in
    let L : GenerationView → Type 0 = λ generation. IsLater old.generation generation in
    let G : RollingView → Type 0 = λ it. GoesOn it.seat.seat new.seat.seat in
    let A : RollingView → Type 0 = λ it. All (IsStoredAgain now it.seat.seat.offered) new.seat.seat.offered in
    record {
      fresh = next.seat;
      is = subst F (sym there) (subst E fresh.ending fresh);
      goes_on = subst G is goes;
      at = at;
      later = subst L (sym there) later;
      again = subst A was again;
    }
