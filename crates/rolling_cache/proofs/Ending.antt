-- That a generation is to end.
use Rattle.std.proofs.Common.{◌≡◌, ◌<◌, ◌≤◌, IfErr, OnOk, Ok, Err, ℕ, Bool, true, false, List, [], ◌∷◌, ◌++◌, length, refl, subst, ◌∙◌, arith}
use Rattle.std.proofs.lemmas.List.{append-nil}
use Rattle.std.specs.declared.result.Result.{Result}
use Rattle.dns_message.specs.declared.question.Question.{Question}
use Rattle.answer_log.specs.Groups.{group_in}
use Rattle.answer_log.specs.Histories.{IsFull, in_group, mine}
use Rattle.answer_log.specs.Steps.{store_by}
use Rattle.answer_log.specs.declared.store.Store.{Store}
use Rattle.answer_cache.proofs.Placing.{longer, prefix-trans}
use Rattle.answer_cache.specs.Seats.{GoesOn, GroupHas, IsRefused, IsStored, Offer, SeatView, StoresNothing}
use Rattle.answer_cache.specs.declared.refusal.StoreRefusal.{StoreRefusal}
use Rattle.answer_cache.specs.declared.refusal.StoreRefusal.TheVariants.{Lifeless, GenerationFull, Contended, Memory}
use Rattle.rolling_cache.specs.Rolling.{HasSeenFew, RollingView, TellsEnd}

-- a store after a call that stores nothing
stored-over : (old mid new : SeatView) (offer : Offer) → GoesOn old mid → StoresNothing old mid → IsStored mid new offer
    → IsStored old new offer
stored-over old mid new offer goes nothing it =
    let M : ℕ → List Store → Type 0 = λ number own. mine it.before number ≡ own in
    let S : ℕ → Type 0 = λ number. new.seen ≡ it.before ++ store_by number offer.question offer.answer offer.moment ∷ [] in
    let O : ℕ → List Store → Type 0 = λ number own.
    new.own ≡ own ++ store_by number offer.question offer.answer offer.moment ∷ [] in
    let R : ℕ → Type 0 = λ groups. IsFull groups it.before offer.question → ⊥ in
    record {
      lives = it.lives;
      before = it.before;
      later = prefix-trans old.seen mid.seen it.before goes.seen it.later;
      others = subst (λ number. M number old.own) goes.number (subst (λ own. M mid.number own) nothing.own it.others);
      room = subst R goes.groups it.room;
      last = subst S goes.number it.last;
      own = subst (λ number. O number old.own) goes.number (subst (λ own. O mid.number own) nothing.own it.own);
    }

pub stored-after : {A E : Type 0} (result : Result A E) (old mid new : SeatView) (offer : Offer) → GoesOn old mid
    → StoresNothing old mid → OnOk result (IsStored mid new offer) → OnOk result (IsStored old new offer)
stored-after (Ok a) old mid new offer goes nothing it = stored-over old mid new offer goes nothing it
stored-after (Err e) old mid new offer goes nothing it = tt

-- a refusal after a call that stores nothing
refused-over : (old mid new : SeatView) (offer : Offer) (refusal : StoreRefusal) → GoesOn old mid → StoresNothing old mid
    → IsRefused mid new offer refusal → IsRefused old new offer refusal
refused-over old mid new offer Lifeless goes nothing it = (it.0 ∙ nothing.own, it.1)
refused-over old mid new offer GenerationFull goes nothing it = (it.0 ∙ nothing.own, it.1)
refused-over old mid new offer Contended goes nothing it =
    (it.0 ∙ nothing.own, (it.1.0, longer old.seen mid.seen 16 new.seen goes.seen it.1.1))
refused-over old mid new offer Memory goes nothing it = (it.0 ∙ nothing.own, it.1)

pub refused-after : {A : Type 0} (result : Result A StoreRefusal) (old mid new : SeatView) (offer : Offer) → GoesOn old mid
    → StoresNothing old mid → IfErr result (IsRefused mid new offer) → IfErr result (IsRefused old new offer)
refused-after (Ok a) old mid new offer goes nothing it = tt
refused-after (Err refusal) old mid new offer goes nothing it = refused-over old mid new offer refusal goes nothing it

-- the seat has just seen few stores in the group of the question
pub few-now : (question : Question) (old new : SeatView) → GoesOn old new → (GroupHas 112 new question → ⊥)
    → HasSeenFew question old new
few-now question old new goes not =
    let F : ℕ → Type 0 = λ groups. length (in_group groups (group_in groups question) new.seen) < 112 in
    let few : F new.groups = by-not (length (in_group new.groups (group_in new.groups question) new.seen)) not in
    record {
      seen = new.seen;
      later = goes.seen;
      earlier = ([], append-nil new.seen);
      few = subst F goes.groups few;
    }
  where
    by-not : (n : ℕ) → (112 ≤ n → ⊥) → n < 112
    by-not n not = omega (arith, not)

-- what a seat tells of the end of its generation, after it has seen more
pub tells-after : (question : Question) (old mid new : RollingView) → TellsEnd question old mid
    → GoesOn mid.seat.seat new.seat.seat → (mid.ending ≡ true → new.ending ≡ true) → TellsEnd question old new
tells-after question old mid new tells goes still = record {
  still = λ was. still (tells.still was);
  few = λ none.
      let before = tells.few (before-none mid.ending new.ending still none) in record {
        seen = before.seen;
        later = before.later;
        earlier = prefix-trans before.seen mid.seat.seat.seen new.seat.seat.seen before.earlier goes.seen;
        few = before.few;
      };
}
  where
    before-none : (a b : Bool) → (a ≡ true → b ≡ true) → b ≡ false → a ≡ false
    before-none true b still none = absurd (cc (still refl, none))
    before-none false b still none = refl
