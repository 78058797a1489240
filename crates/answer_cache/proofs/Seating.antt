-- New seats, and what a seat has after a store.
use Rattle.std.proofs.Common.{◌≡◌, ◌+◌, ◌<◌, ◌==◌, inl, inr, IfErr, ℕ, zero, suc, List, [], ◌∷◌, ◌++◌, length, map, MatchResult, OnOk, Ok, Err, refl, ap}
use Rattle.std.proofs.Common.{subst, sym, ◌∙◌, arith, rules}
use Rattle.std.proofs.lemmas.Bool.{eq-eqb}
use Rattle.std.proofs.lemmas.List.{length-append, map-append}
use Rattle.std.proofs.lemmas.List.Elements.{All-cons, All-map, All-nil, filter-append}
use Rattle.std.specs.List.{All, range_with_len}
use Rattle.std.specs.declared.result.Result.{Result}
use Rattle.logbook.specs.Pages.{Book}
use Rattle.dns_answers.specs.Values.{AnswerValue}
use Rattle.dns_message.specs.declared.question.Question.{Question}
use Rattle.answer_log.specs.Groups.{group_in}
use Rattle.answer_log.specs.Handles.{EndsWith, IsNew, SeesMore, spent_of}
use Rattle.answer_log.specs.Histories.{IsFull, IsHistory, IsSound, in_group, mine}
use Rattle.answer_log.specs.Logs.{groups_in, history}
use Rattle.answer_log.specs.Steps.{store_by}
use Rattle.answer_log.specs.declared.event.Event.{Event}
use Rattle.answer_log.specs.declared.handle.Handle.{Handle}
use Rattle.answer_log.specs.declared.store.Store.{Store}
use Rattle.answer_cache.specs.Nodes.{Costs, Holds}
use Rattle.answer_cache.specs.Seats.{GoesOn, IsStored, Offer, StoresNothing, offer_of}
use Rattle.answer_cache.specs.declared.refusal.CacheRefusal.{CacheRefusal}
use Rattle.answer_cache.specs.declared.refusal.CacheRefusal.TheVariants.{BadCount, Memory}
use Rattle.answer_cache.proofs.Powers.{sixty-four}
use Rattle.answer_cache.specs.Shared.{Belongs, CacheView, Refuses, RefusesGroups, SharedView, Takes, cache_view, new_seat, view_of}

range-more : (from size : ℕ) → range_with_len from (suc size) ≡ range_with_len from size ++ (from + size) ∷ []
range-more from zero = let same : from ≡ from + 0 = omega arith in ap (λ n. n ∷ []) same
range-more from (suc size) =
    let same : (from + 1) + size ≡ from + suc size = omega arith in
    ap (λ rest. from ∷ rest) (range-more (from + 1) size ∙ ap (λ n. range_with_len (from + 1) size ++ n ∷ []) same)

-- one seat more
pub seats-more : (cache : CacheView) (size : ℕ)
    → map (new_seat cache) (range_with_len 0 (size + 1)) ≡ map (new_seat cache) (range_with_len 0 size) ++ new_seat cache size ∷ []
seats-more cache size =
    let next : size + 1 ≡ suc size = omega arith in
    let first : 0 + size ≡ size = omega arith in
    ap (λ n. map (new_seat cache) (range_with_len 0 n)) next
    ∙ (ap (λ numbers. map (new_seat cache) numbers) (range-more 0 size)
    ∙ (map-append (new_seat cache) (range_with_len 0 size) ((0 + size) ∷ [])
    ∙ ap (λ n. map (new_seat cache) (range_with_len 0 size) ++ new_seat cache n ∷ []) first))

-- what is dealt for a new seat
pub new-view : (handle : Handle) (offered : List Offer) (cache : CacheView) (its : Book) (number seats groups size : ℕ)
    → IsNew handle its number seats groups
    → cache_view its seats groups ≡ cache → number ≡ size
    → offered ≡ [] → view_of handle offered ≡ new_seat cache size
new-view handle offered cache its number seats groups size it same is none =
    let at : cache_view handle.book.book handle.seats handle.groups ≡ cache =
    (λ i. cache_view (it.book i) (it.count i) (it.group_count i)) ∙ same in
    let n = it.number ∙ is in
    λ i. record {
      cache = at i;
      seat = record {
        number = n i;
        seen = history (it.log i);
        own = mine (history (it.log i)) (n i);
        offered = none i;
        groups = (at i).groups;
      };
      links = (it.spent i).links;
      tries = (it.spent i).tries;
      missed = (it.spent i).missed;
      node_count = it.node_count i;
    }

-- with 64 groups, the number of seats alone can be bad
pub refuses-seats : {A : Type 0} (result : Result A CacheRefusal) (seats : ℕ) → IfErr result (RefusesGroups seats 64)
    → IfErr result (Refuses seats)
refuses-seats (Ok made) seats it = it
refuses-seats (Err BadCount) seats it = elim it [
  | inl none ↦ inl none
  | inr more ↦ elim more [ inl many ↦ inr many | inr not ↦ absurd (not sixty-four) ]
]
refuses-seats (Err Memory) seats it = (it.0, it.1)

all-of : {X : Type 0} (P : X → Type 0) → ((x : X) → P x) → (xs : List X) → All P xs
all-of P each [] = All-nil P
all-of P each (x ∷ xs) = All-cons P x xs (each x) (all-of P each xs)

pub new-belong : (cache : CacheView) (size : ℕ) → All (Belongs cache) (map (new_seat cache) (range_with_len 0 size))
new-belong cache size =
    All-map (Belongs cache) (new_seat cache) (range_with_len 0 size) (all-of (λ n. Belongs cache (new_seat cache n)) (λ n. record {
      made = refl;
      is = record { own = refl; history = record { sound = All-nil IsSound; few = λ group. search rules } };
      groups = refl;
    }) (range_with_len 0 size))

module _ (front whole : List Store) (store : Store) (last : whole ≡ front ++ store ∷ []) where
  -- the group of the store had room before it
  had-room : (groups : ℕ) → IsHistory groups whole → IsFull groups front store.question → ⊥
  had-room groups it full =
      let few = it.few (group_in groups store.question) in
      let own = eq-eqb (group_in groups store.question) (group_in groups store.question) refl in
      let one : in_group groups (group_in groups store.question) (store ∷ []) ≡ store ∷ [] = rw own refl in
      let split = ap (in_group groups (group_in groups store.question)) last
      ∙ (filter-append (λ it. group_in groups it.question == group_in groups store.question) front (store ∷ [])
      ∙ ap (λ l. in_group groups (group_in groups store.question) front ++ l) one) in
      let size = ap length split ∙ length-append (in_group groups (group_in groups store.question) front) (store ∷ []) in
      omega arith

  pub own-one-more : mine whole store.seat ≡ mine front store.seat ++ store ∷ []
  own-one-more =
      let one : mine (store ∷ []) store.seat ≡ store ∷ [] = rw (eq-eqb store.seat store.seat refl) refl in
      ap (λ h. mine h store.seat) last
      ∙ (filter-append (λ it. it.seat == store.seat) front (store ∷ []) ∙ ap (λ l. mine front store.seat ++ l) one)

pub stored : {A E : Type 0} (result : Result A E) (handle : Handle) (noted : List Offer) (view : SharedView) (new : List Event)
    (number groups : ℕ) (offered : List Offer)
    (question : Question) (answer : AnswerValue) (moment : ℕ) → view_of handle noted ≡ view → number ≡ handle.number → 0 < answer.life
    → IsHistory (groups_in new) (history new) → groups_in new ≡ handle.groups
    → MatchResult result (λ _. EndsWith (store_by handle.number question answer moment) (history handle.book.log) (history new))
    (λ _. SeesMore handle.number handle.book.log new)
    → OnOk result (IsStored view.seat
    (record { number = number; seen = history new; own = mine (history new) number; offered = offered; groups = groups })
    (offer_of question answer moment))
stored (Ok a) handle noted view new number groups offered question answer moment is same lives it on end =
    let store : Store = store_by handle.number question answer moment in
    let V : SharedView → Type 0 =
    λ v. IsStored v.seat
    (record { number = number; seen = history new; own = mine (history new) number; offered = offered; groups = groups })
    (offer_of question answer moment) in
    subst V is (record {
      lives = lives;
      before = end.front;
      later = end.later;
      others = end.own;
      room = let H : ℕ → Type 0 = λ so. IsHistory so (history new) in
          had-room end.front (history new) store end.last handle.groups (subst H on it);
      last = end.last;
      own = ap (λ n. mine (history new) n) same ∙ (own-one-more end.front (history new) store end.last ∙ ap (λ l. l ++ store ∷ []) end.own);
    })
stored (Err e) handle noted view new number groups offered question answer moment is same lives it on end = tt

-- what a seat has after a call that stores nothing
module _ (h k : Handle) (noted : List Offer) (cache : CacheView) (view : SharedView) (is : view_of h noted ≡ view) where
  pub stays : Belongs cache view → Holds cache.book h k → IsHistory (groups_in k.book.log) (history k.book.log)
      → Belongs cache (view_of k noted)
  stays it holds kept =
      let H : ℕ → Type 0 = λ groups. IsHistory groups (history k.book.log) in
      let made : cache_view h.book.book h.seats h.groups ≡ cache = ap (λ v. v.cache) is ∙ it.made in
      let book : k.book.book ≡ h.book.book = holds.same ∙ sym (ap (λ v. v.book) made) in record {
        made = (λ i. cache_view (book i) (holds.seats i) (holds.groups i)) ∙ made;
        is = record { own = refl; history = subst H holds.handle.groups kept };
        groups = holds.groups ∙ ap (λ v. v.groups) made;
      }

  pub goes-on : Holds cache.book h k → SeesMore h.number h.book.log k.book.log → GoesOn view.seat (view_of k noted).seat
  goes-on holds sees =
      let V : SharedView → Type 0 = λ v. GoesOn v.seat (view_of k noted).seat in
      subst V is (record { number = holds.number; seen = sees.stores; groups = holds.groups })

  pub stores-nothing : Holds cache.book h k → SeesMore h.number h.book.log k.book.log → StoresNothing view.seat (view_of k noted).seat
  stores-nothing holds sees =
      let V : SharedView → Type 0 = λ v. StoresNothing v.seat (view_of k noted).seat in
      subst V is (record { own = ap (λ n. mine (history k.book.log) n) holds.number ∙ sees.own; offered = refl })

  pub takes : (links tries : ℕ) → Costs (spent_of h) (spent_of k) links tries → Takes view (view_of k noted) links tries
  takes links tries costs =
      let V : SharedView → Type 0 = λ v. Takes v (view_of k noted) links tries in
      subst V is (record { along = costs.along; tried = costs.tried })
