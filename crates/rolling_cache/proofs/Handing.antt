-- What is found was handed in.
use Rattle.std.proofs.Common.{◌≡◌, ◌+◌, ◌<◌, ◌≤◌, ◌==◌, ℕ, zero, suc, Bool, true, false, List, [], ◌∷◌, ◌++◌, Option, Some, None, length, map, drop, refl, ap}
use Rattle.std.proofs.Common.{sym, ◌∙◌, arith, subst, nat_lt, option_and_then, get_or}
use Rattle.std.proofs.lemmas.Bool.Decides.{nat_tests}
use Rattle.std.proofs.lemmas.List.{get_or_default, length-map, map-append}
use Rattle.std.proofs.lemmas.List.Elements.{All-append, All-cons, All-filter, All-head, All-nil, All-tail}
use Rattle.std.proofs.Math.Seq.{drop-append_seam}
use Rattle.std.specs.List.{All, Any, Contains, flat_map, last_or, range_with_len}
use mathlib.Core.List.{IsPrefix}
use Rattle.dns_answers.specs.Values.{AnswerValue}
use Rattle.dns_message.specs.Questions.{same_question}
use Rattle.dns_message.specs.declared.question.Question.{Question}
use Rattle.answer_log.specs.Groups.{group_in}
use Rattle.answer_log.specs.Histories.{cached, in_group, living, stores_of}
use Rattle.answer_log.specs.declared.store.Store.{Store}
use Rattle.answer_cache.specs.Carried.{IsCarriedOf, carried_stores, living_of, unseated}
use Rattle.answer_cache.specs.Lists.{own_store}
use Rattle.answer_cache.specs.Seats.{Offer}
use Rattle.answer_cache.proofs.Carrying.{carried-all}
use Rattle.rolling_cache.specs.Eras.{Descends, Era, Gives, begun_with, handed_before, handed_in, handed_to}

all-front : {X : Type 0} (P : X → Type 0) (xs ys : List X) → All P (xs ++ ys) → All P xs
all-front P [] ys all = All-nil P
all-front P (x ∷ xs) ys all =
    All-cons P x xs (All-head P x (xs ++ ys) all) (all-front P xs ys (All-tail P x (xs ++ ys) all))

all-back : {X : Type 0} (P : X → Type 0) (xs ys : List X) → All P (xs ++ ys) → All P ys
all-back P [] ys all = all
all-back P (x ∷ xs) ys all = all-back P xs ys (All-tail P x (xs ++ ys) all)

-- each element is among them
all-own : {X : Type 0} (xs : List X) → All (λ x. Contains xs x) xs
all-own xs k d low = (k, low, get_or_default xs k (get_or xs k d) d low)

-- what holds of all that was handed in
module _ (P : Offer → Type 0) where
  abbrev S : Store → Type 0
  S store = P (unseated store)

  all-seen : (stores : List Store) → All P (map unseated stores) → All S stores
  all-seen [] all = All-nil S
  all-seen (store ∷ stores) all =
      All-cons S store stores (All-head P (unseated store) (map unseated stores) all)
      (all-seen stores (All-tail P (unseated store) (map unseated stores) all))

  -- holds of what is carried, where it holds of what was seen
  all-carried : (groups first : ℕ) (before after : List Store) (now : ℕ) (carried : List Offer)
      → IsCarriedOf groups first before after now carried → All S after → All S (carried_stores carried)
  all-carried groups first before after now carried it all =
      let H : List Offer → Type 0 = λ offers. All S (carried_stores offers) in
      subst H (sym it.all) (all-from 0 first (omega arith))
    where
      part : ℕ → List Offer
      part group = living_of now (in_group groups group (it.history group))

      all-part : (group : ℕ) → group < first → All S (carried_stores (part group))
      all-part group low =
          let A : List Store → Type 0 = λ stores. All S stores in
          let front : All S (it.history group) =
          all-front S (it.history group) (it.till group low).0 (subst A (sym (it.till group low).1) all) in
          carried-all S now (in_group groups group (it.history group))
          (All-filter (λ store. group_in groups store.question == group) S (it.history group) front)

      all-from : (from size : ℕ) → from + size ≤ first → All S (carried_stores (flat_map part (range_with_len from size)))
      all-from from zero fits = All-nil S
      all-from from (suc size) fits =
          let A : List Store → Type 0 = λ stores. All S stores in
          subst A (sym (map-append own_store (part from) (flat_map part (range_with_len (from + 1) size))))
          (All-append S (carried_stores (part from)) (carried_stores (flat_map part (range_with_len (from + 1) size)))
          (all-part from (omega arith)) (all-from (from + 1) size (omega arith)))

  -- a history is what it began with, and what was handed in after that
  all-joined : (begun : List Offer) (seen : List Store) → IsPrefix (carried_stores begun) seen
      → All S (carried_stores begun) → All P (map unseated (drop (length begun) seen)) → All S seen
  all-joined begun seen p old new =
      let A : List Store → Type 0 = λ stores. All S stores in
      let M : List Store → Type 0 = λ stores. All P (map unseated stores) in
      let size : length (carried_stores begun) ≡ length begun = length-map begun own_store in
      let left : drop (length begun) seen ≡ p.0 =
      ap (λ n. drop n seen) (sym size)
      ∙ (ap (λ stores. drop (length (carried_stores begun)) stores) (sym p.1) ∙ drop-append_seam (carried_stores begun) p.0) in
      subst A p.1 (All-append S (carried_stores begun) p.0 old (all-seen p.0 (subst M left new)))

  -- so it holds of what a generation began with
  all-begun : (past : List Era) → Descends past → All P (handed_before past) → All S (carried_stores (begun_with past))
  all-begun [] law_descends all = All-nil S
  all-begun (era ∷ older) (handles, more) all =
      let old = all-begun older more (all-front P (handed_before older) (handed_to older era.told.seen) all) in
      let new = all-back P (handed_before older) (handed_to older era.told.seen) all in
      all-carried era.carried.groups era.carried.groups handles.before era.told.seen handles.moment era.carried.offers handles.carried
      (all-joined (begun_with older) era.told.seen handles.begins old new)

  -- and of all that a seat there has seen
  all-stores : (past : List Era) (seen : List Store) → Descends past → IsPrefix (carried_stores (begun_with past)) seen
      → All P (handed_in past seen) → All S seen
  all-stores past seen law_descends p all =
      all-joined (begun_with past) seen p
      (all-begun past law_descends (all-front P (handed_before past) (handed_to past seen) all))
      (all-back P (handed_before past) (handed_to past seen) all)

  module _ (question : Question) (now : ℕ) (answer : AnswerValue) where
    record Found : Type 0 where
      offer : Offer
      holds : P offer
      gives : Gives question now answer offer

    abbrev Kept : Option Store → Type 0
    Kept None = Unit {0}
    Kept (Some store) = S store × (same_question store.question question ≡ true)

    by-last : (last : Option Store) → Kept last → option_and_then (living now) last ≡ Some answer → Found
    by-last None kept is = absurd (cc (is))
    by-last (Some store) (holds, asked) is = by-test (nat_lt now (store.moment + store.answer.life)) refl
      where
        by-test : (lives : Bool) → nat_lt now (store.moment + store.answer.life) ≡ lives → Found
        by-test true lives =
            let same : Some store.answer ≡ Some answer = rw lives at is in
            record {
              offer = unseated store;
              holds = holds;
              gives = record { asked = asked; is = cc (same); lives = grind (arith, nat_tests) };
            }
        by-test false lives = let wrong : None ≡ Some answer = rw lives at is in absurd (cc (wrong))

    -- of what is found too
    found-in : (stores : List Store) (one : Option Store) → Kept one → All S stores
        → option_and_then (living now) (last_or one (stores_of question stores)) ≡ Some answer → Found
    found-in [] one kept all is = by-last one kept is
    found-in (store ∷ stores) one kept all is =
        by-test (same_question store.question question) refl
        (λ last its found. found-in stores last its (All-tail S store stores all) found)
      where
        by-test : (asked : Bool) → same_question store.question question ≡ asked
            → ((last : Option Store) → Kept last
            → option_and_then (living now) (last_or last (stores_of question stores)) ≡ Some answer → Found) → Found
        by-test true asked more = more (Some store) (All-head S store stores all, asked) (rw asked at is)
        by-test false asked more = more one kept (rw asked at is)

pub handed-in : (past : List Era) (seen : List Store) → Descends past → IsPrefix (carried_stores (begun_with past)) seen
    → (question : Question) (now : ℕ) (answer : AnswerValue) → cached seen question now ≡ Some answer
    → Any (Gives question now answer) (handed_in past seen)
handed-in past seen law_descends p question now answer is =
    let C : Offer → Type 0 = λ offer. Contains (handed_in past seen) offer in
    let it = found-in C question now answer seen None (tt {0}) (all-stores C past seen law_descends p (all-own (handed_in past seen))) is in
    (it.holds.0, it.offer, it.holds.1, it.holds.2, it.gives)
