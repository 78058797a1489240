-- A cache begins with what another one hands on.
use Rattle.std.proofs.Common.{◌≡◌, ◌+◌, ◌<◌, ◌==◌, ℕ, zero, suc, Bool, true, false, List, [], ◌∷◌, ◌++◌, length, take, map, get_or, refl, ap, sym}
use Rattle.std.proofs.Common.{subst, ◌∙◌, arith}
use Rattle.std.proofs.lemmas.Bool.{eqb-true, eqb-false, eq-eqb, ne_eqb}
use Rattle.std.proofs.lemmas.List.{get_or-map, length-map, map-append, take_more}
use Rattle.std.proofs.lemmas.List.Elements.{All-head, All-tail}
use Rattle.std.proofs.lemmas.List.FromFn.{map-range_with_len_more}
use Rattle.std.specs.Arc.{arc_value}
use Rattle.std.specs.List.{All, range_with_len}
use mathlib.Core.List.{IsPrefix}
use Rattle.answer_log.specs.Handles.{EndsWith}
use Rattle.answer_log.specs.Histories.{IsHistory, IsSound, mine}
use Rattle.answer_log.specs.Logs.{groups_in, history, seats_in}
use Rattle.answer_log.specs.Steps.{store_by}
use Rattle.answer_log.specs.declared.event.Event.{Event}
use Rattle.answer_log.specs.declared.event.Event.TheVariants.{Asks, Named, Opened, Placed}
use Rattle.answer_log.specs.declared.handle.Handle.{Handle}
use Rattle.answer_log.specs.declared.store.Store.{Store}
use Rattle.answer_cache.specs.Carried.{CarriedView, carried_stores, offer_in, offers_in, own_of, seat_after}
use Rattle.answer_cache.specs.Lists.{own_store}
use Rattle.answer_cache.specs.Seats.{Offer, SeatView}
use Rattle.answer_cache.specs.Shared.{Belongs, CacheView, SharedView, cache_view, view_of}
use Rattle.answer_cache.specs.declared.carried.Entry.{Entry}
use Rattle.answer_cache.proofs.Seating.{own-one-more}

module _ (entries : List Entry) (at : ℕ) (entry : Entry) (low : at < length entries) (is : entry ≡ get_or entries at entry) where
  within : at < length (carried_stores (offers_in entries))
  within =
      let one = length-map (offers_in entries) own_store in
      let two = length-map entries offer_in in
      omega arith

  at-is : get_or (carried_stores (offers_in entries)) at (own_store (offer_in entry)) ≡ own_store (offer_in entry)
  at-is =
      let two = length-map entries offer_in in
      get_or-map own_store (offers_in entries) at (offer_in entry) (own_store (offer_in entry)) (omega arith)
      ∙ ap own_store (get_or-map offer_in entries at entry (offer_in entry) low ∙ ap offer_in (sym is))

  -- what is carried is sound, whoever stores it
  pub sound-at : (groups : ℕ) → IsHistory groups (carried_stores (offers_in entries)) → IsSound (own_store (offer_in entry))
  sound-at groups it = subst IsSound at-is (it.sound at (own_store (offer_in entry)) within)

  -- with the next one stored, the seat's own stores are those that are carried up to it
  pub own-next : (number : ℕ) (old new : List Store) → number ≡ 0
      → mine old 0 ≡ take at (carried_stores (offers_in entries))
      → EndsWith (store_by number entry.question (arc_value entry.answer) entry.moment) old new
      → mine new 0 ≡ take (at + 1) (carried_stores (offers_in entries))
  own-next number old new zero-is before end =
      let E : ℕ → Type 0 = λ n. EndsWith (store_by n entry.question (arc_value entry.answer) entry.moment) old new in
      let its = subst E zero-is end in
      let store : Store = own_store (offer_in entry) in
      own-one-more its.front new store its.last
      ∙ (ap (λ l. l ++ store ∷ []) (its.own ∙ before)
      ∙ (ap (λ s. take at (carried_stores (offers_in entries)) ++ s ∷ []) (sym at-is)
      ∙ sym (take_more (carried_stores (offers_in entries)) at store within)))

-- a log of seats begins with how many seats and groups there are
pub opened-first : (log : List Event) (seats groups : ℕ) → seats_in log ≡ seats → groups_in log ≡ groups → 0 < seats
    → IsPrefix (Opened seats groups ∷ []) log
opened-first [] seats groups is are some = absurd (omega arith)
opened-first (Opened n m ∷ log) seats groups is are some = (log, λ i. Opened (sym is i) (sym are i) ∷ log)
opened-first (Asks s n ∷ log) seats groups is are some = absurd (omega arith)
opened-first (Named n x l ∷ log) seats groups is are some = absurd (omega arith)
opened-first (Placed n x l ∷ log) seats groups is are some = absurd (omega arith)

first-zero : (seats : ℕ) (store : Store) (rest : List Store) (seat : ℕ) → store.seat ≡ seat → seat < seats
    → ((n : ℕ) → 0 < n → n < seats → mine (store ∷ rest) n ≡ []) → seat ≡ 0
first-zero seats store rest zero is low none = refl
first-zero seats store rest (suc seat) is low none =
    let e = none (suc seat) (omega arith) low in
    let e' : store ∷ mine rest (suc seat) ≡ [] = rw (eq-eqb store.seat (suc seat) is) at e in
    absurd (cc (e'))

-- where no other seat has stored, all stores are of the first one
pub alone : (seats : ℕ) (stores : List Store) → All (λ store. store.seat < seats) stores
    → ((seat : ℕ) → 0 < seat → seat < seats → mine stores seat ≡ []) → mine stores 0 ≡ stores
alone seats [] all none = refl
alone seats (store ∷ rest) all none =
    let first = first-zero seats store rest store.seat refl (All-head (λ it. it.seat < seats) store rest all) none in
    let later : (n : ℕ) → 0 < n → n < seats → mine rest n ≡ [] =
    (λ n some low. rw (ne_eqb store.seat n (λ p. absurd (omega (arith, p, first)))) at (none n some low)) in
    rw (eq-eqb store.seat 0 first) (ap (λ l. store ∷ l) (alone seats rest (All-tail (λ it. it.seat < seats) store rest all) later))

-- one seat more that has stored nothing
pub none-more : (stores : List Store) (n : ℕ) → ((seat : ℕ) → 0 < seat → seat < n → mine stores seat ≡ []) → mine stores n ≡ []
    → (seat : ℕ) → 0 < seat → seat < n + 1 → mine stores seat ≡ []
none-more stores n before here seat some low = none-by (seat == n) refl
  where
    none-by : (is : Bool) → (seat == n) ≡ is → mine stores seat ≡ []
    none-by true is = let N : ℕ → Type 0 = λ k. mine stores k ≡ [] in subst N (sym (eqb-true seat n is)) here
    none-by false is = let other = eqb-false seat n is in before seat some (less seat n low other)
      where
        less : (a b : ℕ) → a < b + 1 → (a ≡ b → ⊥) → a < b
        less a b low other = omega (arith, other)

-- a seat that has seen these stores, and was handed nothing
abbrev pub seat_seen : ℕ → List Store → ℕ → SeatView
seat_seen groups stores number =
    record { number = number; seen = stores; own = mine stores number; offered = []; groups = groups }

-- a seat that has seen just what was told
pub seat-seen : (handle : Handle) (offered : List Offer) (log : List Event) (groups number : ℕ) → handle.book.log ≡ log → handle.groups ≡ groups
    → handle.number ≡ number → offered ≡ [] → (view_of handle offered).seat ≡ seat_seen groups (history log) number
seat-seen handle offered log groups number grown so num none = λ i. record {
  number = num i;
  seen = history (grown i);
  own = mine (history (grown i)) (num i);
  offered = none i;
  groups = so i;
}

pub seat-belongs : (handle : Handle) (offered : List Offer) (cache : CacheView) (log : List Event) → handle.book.log ≡ log
    → cache_view handle.book.book handle.seats handle.groups ≡ cache → IsHistory handle.groups (history log)
    → Belongs cache (view_of handle offered)
seat-belongs handle offered cache log grown same kept =
    let K : List Event → Type 0 = λ l. IsHistory handle.groups (history l) in record {
      made = same;
      is = record { own = refl; history = subst K (sym grown) kept };
      groups = ap (λ v. v.groups) same;
    }

-- one seat more
pub seats-on : (made : List SharedView) (view : SharedView) (groups : ℕ) (stores : List Store) (size : ℕ)
    → map (λ it. it.seat) made ≡ map (seat_seen groups stores) (range_with_len 0 size) → view.seat ≡ seat_seen groups stores size
    → map (λ it. it.seat) (made ++ view ∷ []) ≡ map (seat_seen groups stores) (range_with_len 0 (size + 1))
seats-on made view groups stores size before is =
    map-append (λ it. it.seat) made (view ∷ [])
    ∙ ((λ i. before i ++ is i ∷ []) ∙ sym (map-range_with_len_more (seat_seen groups stores) 0 size size (omega arith)))

-- what is carried is of seat 0
own-is : (carried : List Offer) (number : ℕ) → mine (carried_stores carried) number ≡ own_of (carried_stores carried) number
own-is [] zero = refl
own-is [] (suc number) = refl
own-is (offer ∷ rest) zero = ap (λ l. own_store offer ∷ l) (own-is rest zero)
own-is (offer ∷ rest) (suc number) = rw (ne_eqb 0 (suc number) (λ e. absurd (omega (arith, e)))) (own-is rest (suc number))

-- all seats have seen what is carried, where it is all that was stored
pub seats-are : (carried : CarriedView) (stores : List Store) (numbers : List ℕ) → stores ≡ carried_stores carried.offers
    → map (seat_seen carried.groups stores) numbers ≡ map (seat_after carried) numbers
seats-are carried stores numbers same =
    ap (λ s. map (seat_seen carried.groups s) numbers) same
    ∙ (λ i. map (λ number. record {
      number = number;
      seen = carried_stores carried.offers;
      own = own-is carried.offers number i;
      offered = [];
      groups = carried.groups;
    }) numbers)
