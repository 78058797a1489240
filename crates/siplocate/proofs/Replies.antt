-- That a run over a cache of its own has a history of replies alone.
use Rattle.std.proofs.Common.{◌≡◌, ℕ, ◌+◌, ◌<◌, ◌==◌, Bool, true, false, cond, List, [], ◌∷◌, length, map, subst, arith, rules, zero-add}
use Rattle.std.specs.List.{All, range_with_len}
use Rattle.std.proofs.lemmas.List.Elements.{All-cons, All-get_or, All-head, All-nil, All-tail}
use Rattle.std.proofs.lemmas.List.FromFn.{get_or-map-range_with_len, length-map-range_with_len}
use Rattle.answer_log.specs.Histories.{mine}
use Rattle.answer_log.specs.declared.store.Store.{Store}
use Rattle.answer_cache.specs.Shared.{CacheView, SharedView, new_seat}
use Rattle.sip_workers.specs.Runs.{HasStoresOf, IsOfReply}

first-of : {X : Type 0} (P : X → Type 0) (b : Bool) (x : X) (us : List X) → b ≡ true → All P (cond b (x ∷ us) us) → P x
first-of P b x us is all = All-head P x us (subst (λ c. All P (cond c (x ∷ us) us)) is all)

rest-of : {X : Type 0} (P : X → Type 0) (b : Bool) (x : X) (us : List X) → All P (cond b (x ∷ us) us) → All P us
rest-of P true x us all = All-tail P x us all
rest-of P false x us all = all

is-itself : (n : ℕ) → (n == n) ≡ true
is-itself n = search rules

module _ (gives : List ℕ → Type 0) (shows : ℕ → Type 0) where
  abbrev pub Replied : Store → Type 0
  Replied store = IsOfReply gives shows store

  -- where the stores of each seat are of replies
  of-all : (history : List Store) (count : ℕ) → All (λ store. store.seat < count) history
      → ((number : ℕ) → number < count → All Replied (mine history number)) → All Replied history
  of-all [] count few each = All-nil Replied
  of-all (store ∷ later) count few each =
      let test = λ (number : ℕ). store.seat == number in
      let first = first-of Replied (test store.seat) store (mine later store.seat) (is-itself store.seat)
      (each store.seat (All-head (λ it. it.seat < count) store later few)) in
      All-cons Replied store later first
      (of-all later count (All-tail (λ it. it.seat < count) store later few)
      (λ number below. rest-of Replied (test number) store (mine later number) (each number below)))

  pub of-new-seats : (history : List Store) (cache : CacheView) (count : ℕ) (seats : List SharedView) → cache.seats ≡ count
      → seats ≡ map (new_seat cache) (range_with_len 0 count) → All (λ store. store.seat < cache.seats) history
      → All (λ seat. HasStoresOf gives shows history seat.seat) seats → All Replied history
  of-new-seats history cache count seats counted are few stores =
      of-all history count (rw counted at few) (λ number below.
      (let P = λ (seat : SharedView). HasStoresOf gives shows history seat.seat in
      let other = new_seat cache number in
      let long = length-map-range_with_len (new_seat cache) 0 count in
      let inside : number < length (map (new_seat cache) (range_with_len 0 count)) = omega (arith, long, below) in
      let all : All P (map (new_seat cache) (range_with_len 0 count)) = rw are at stores in
      let at = All-get_or P (map (new_seat cache) (range_with_len 0 count)) number other inside all in
      let it = subst P (get_or-map-range_with_len (new_seat cache) 0 count number number other below (zero-add number)) at in
      rw it.are it.replies))
