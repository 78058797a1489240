-- What a seat of a run stores, and what the history at last has of it.
use Rattle.std.proofs.Common.{◌≡◌, ℕ, ◌==◌, List, [], ◌∷◌, ◌++◌, length, map, refl, sym, ap, ◌∙◌, arith, append-nil, append_assoc, length-append}
use Rattle.std.proofs.lemmas.List.{map-append}
use Rattle.std.proofs.lemmas.List.Elements.{All-append, All-cons, All-head, All-nil, All-tail, filter-append}
use Rattle.std.specs.List.{All, AllZip}
use mathlib.Core.List.{IsPrefix}
use Rattle.answer_log.specs.Histories.{mine}
use Rattle.answer_log.specs.declared.store.Store.{Store}
use Rattle.answer_cache.specs.Seats.{GoesOn, IsSeat, SeatView, StoresNothing}
use Rattle.answer_cache.specs.Shared.{Belongs, CacheView, SharedView}
use Rattle.sip_resolver.specs.Works.{Works}
use Rattle.sip_workers.specs.Deals.{BringsHome, ComesHome, StaysSo, StoresReplies}
use Rattle.sip_workers.specs.Runs.{HasStoresOf, IsOfReply}

-- ---- what a seat learns

pub prefix-through : {X : Type 0} (first middle last : List X) → IsPrefix first middle → IsPrefix middle last → IsPrefix first last
prefix-through first middle last front back =
    (front.0 ++ back.0, sym (append_assoc first front.0 back.0) ∙ ap (λ l. l ++ back.0) front.1 ∙ back.1)

pub stays-same : (seat : SeatView) → StaysSo seat seat
stays-same seat = record { number = refl; own = refl; seen = ([], append-nil seat.seen) }

pub stays-through : (first middle last : SeatView) → StaysSo first middle → StaysSo middle last → StaysSo first last
stays-through first middle last one two = record {
  number = two.number ∙ one.number;
  own = two.own ∙ one.own;
  seen = prefix-through first.seen middle.seen last.seen one.seen two.seen;
}

pub stays-on : (first old new : SeatView) → StaysSo first old → GoesOn old new → StoresNothing old new → StaysSo first new
stays-on first old new so on nothing = record {
  number = on.number ∙ so.number;
  own = nothing.own ∙ so.own;
  seen = prefix-through first.seen old.seen new.seen so.seen on.seen;
}

-- ---- the stores of a seat in a history

longer-no : (own more last : List Store) (store : Store) → (own ++ store ∷ more) ++ last ≡ own → ⊥
longer-no own more last store is =
    let whole = length-append (own ++ store ∷ more) last in
    let front = length-append own (store ∷ more) in
    let same : length ((own ++ store ∷ more) ++ last) ≡ length own = ap length is in
    omega (arith, whole, front, same)

nothing-more : (own more last : List Store) → (own ++ more) ++ last ≡ own → more ≡ []
nothing-more own [] last is = refl
nothing-more own (store ∷ more) last is = elim (longer-no own more last store is) [ ]

-- A history that a seat has seen the beginning of, and all of it later, has no store of the seat that the seat did not make
-- by then.
pub whole-between : (seen history later own : List Store) (number : ℕ) → IsPrefix seen history → IsPrefix history later
    → mine seen number ≡ own → mine later number ≡ own → mine history number ≡ own
whole-between seen history later own number front back before after =
    let test = λ (store : Store). store.seat == number in
    let first : mine history number ≡ own ++ mine front.0 number =
    ap (λ l. mine l number) (sym front.1) ∙ filter-append test seen front.0 ∙ ap (λ l. l ++ mine front.0 number) before in
    let all : (own ++ mine front.0 number) ++ mine back.0 number ≡ own =
    ap (λ l. l ++ mine back.0 number) (sym first) ∙ sym (filter-append test history back.0) ∙ ap (λ l. mine l number) back.1
    ∙ after in
    first ∙ ap (λ l. own ++ l) (nothing-more own (mine front.0 number) (mine back.0 number) all) ∙ append-nil own

-- a seat that learned a history has all its stores in it
pub whole-learned : (history : List Store) (old new : SeatView) → IsSeat old → IsSeat new → GoesOn old new
    → StoresNothing old new → IsPrefix old.seen history → IsPrefix history new.seen
    → mine history old.number ≡ old.own
whole-learned history old new is was on nothing front back =
    whole-between old.seen history new.seen old.own old.number front back is.own
    (ap (mine new.seen) (sym on.number) ∙ was.own ∙ nothing.own)

-- what the seat that learned all has seen holds its own stores
pub whole-own : (first last : SeatView) → IsSeat last → StaysSo first last → mine last.seen first.number ≡ first.own
whole-own first last is so = ap (mine last.seen) (sym so.number) ∙ is.own ∙ so.own

-- all stores of the seat are in the history
abbrev pub IsWhole : List Store → SharedView → Type 0
IsWhole history it = mine history it.seat.number ≡ it.seat.own

-- so many of the seats were told
abbrev pub AreTold : List Store → List SharedView → List SharedView → Type 0
AreTold history all rest = (front : List SharedView) × (front ++ rest ≡ all) × All (IsWhole history) front

pub told-none : (history : List Store) (all : List SharedView) → AreTold history all all
told-none history all = ([], refl, All-nil (IsWhole history))

pub told-more : (history : List Store) (all rest later : List SharedView) (it : SharedView) → rest ≡ it ∷ later
    → AreTold history all rest → IsWhole history it → AreTold history all later
told-more history all rest later it next told whole = (
  told.0 ++ it ∷ [],
  append_assoc told.0 (it ∷ []) later ∙ ap (λ l. told.0 ++ l) (sym next) ∙ told.1,
  All-append (IsWhole history) told.0 (it ∷ []) told.2 (All-cons (IsWhole history) it [] whole (All-nil (IsWhole history))),
)

told-by : (history : List Store) (all front rest : List SharedView) → length rest ≡ 0 → front ++ rest ≡ all
    → All (IsWhole history) front → All (IsWhole history) all
told-by history all front [] none is whole = rw (sym is, append-nil front) whole
told-by history all front (it ∷ rest) none is whole = absurd cc

pub told-all : (history : List Store) (all rest : List SharedView) → length rest ≡ 0 → AreTold history all rest
    → All (IsWhole history) all
told-all history all rest none told = told-by history all told.0 rest none told.1 told.2

-- ---- the threads, by the seats that they began with

module _ {X : Type 0} (of : X → SharedView) where
  pub one-more-first : (threads : List X) (thread : X) (seat : SharedView) (rest later all : List SharedView) → rest ≡ seat ∷ later
      → of thread ≡ seat → map of threads ++ rest ≡ all → map of (threads ++ thread ∷ []) ++ later ≡ all
  one-more-first threads thread seat rest later all next is before =
      ap (λ l. l ++ later) (map-append of threads (thread ∷ []))
      ∙ append_assoc (map of threads) (of thread ∷ []) later
      ∙ ap (λ it. map of threads ++ it ∷ later) is
      ∙ ap (λ l. map of threads ++ l) (sym next)
      ∙ before

-- ---- what a worker stores

module _ (gives : List ℕ → Type 0) (shows : ℕ → Type 0) where
  pub stores-none : (seat : SeatView) → StoresReplies gives shows seat seat
  stores-none seat = record {
    number = refl;
    stores = [];
    own = sym (append-nil seat.own);
    replies = All-nil (IsOfReply gives shows);
  }

  pub stores-of-works : (old new : SeatView) → Works gives shows old new → StoresReplies gives shows old new
  stores-of-works old new works =
      record { number = works.goes_on.number; stores = works.stores; own = works.own; replies = works.kept }

  pub stores-more : (first middle last : SeatView) → StoresReplies gives shows first middle → StoresReplies gives shows middle last
      → StoresReplies gives shows first last
  stores-more first middle last one two = record {
    number = two.number ∙ one.number;
    stores = one.stores ++ two.stores;
    own = two.own ∙ ap (λ l. l ++ two.stores) one.own ∙ append_assoc first.own one.stores two.stores;
    replies = All-append (IsOfReply gives shows) one.stores two.stores one.replies two.replies;
  }

  has-stores : (history : List Store) (first last : SeatView) → StoresReplies gives shows first last
      → mine history last.number ≡ last.own → HasStoresOf gives shows history first
  has-stores history first last stored whole = record {
    stores = stored.stores;
    are = ap (mine history) (sym stored.number) ∙ whole ∙ stored.own;
    replies = stored.replies;
  }

  module _ (cache : CacheView) where
    -- the seats that came home, by the seats that they were before
    abbrev pub Come : List SharedView → List SharedView → Type 0
    Come firsts lasts = AllZip (ComesHome gives shows cache) firsts lasts

    come-too : (firsts lasts : List SharedView) (first last : SharedView) → Come firsts lasts → ComesHome gives shows cache first last
        → Come (firsts ++ first ∷ []) (lasts ++ last ∷ [])
    come-too [] [] first last come home = (home, tt)
    come-too [] (it ∷ lasts) first last come home = elim come [ ]
    come-too (it ∷ firsts) [] first last come home = elim come [ ]
    come-too (one ∷ firsts) (two ∷ lasts) first last come home = (come.0, come-too firsts lasts first last come.1 home)

    pub one-more-comes : (firsts old new : List SharedView) (first : SharedView) → Come firsts old
        → BringsHome gives shows cache first old new → Come (firsts ++ first ∷ []) new
    one-more-comes firsts old new first come brings = rw brings.after (come-too firsts old first brings.last come brings.home)

    -- these threads were joined, but for the rest
    module _ {X : Type 0} (of : X → SharedView) (all : List X) where
      abbrev pub HaveJoined : List X → List SharedView → Type 0
      HaveJoined rest lasts = (firsts : List SharedView) × (firsts ++ map of rest ≡ map of all) × Come firsts lasts

      pub joined-none : HaveJoined all []
      joined-none = ([], refl, tt)

      pub joined-more : (rest later : List X) (thread : X) (old new : List SharedView) → rest ≡ thread ∷ later
          → HaveJoined rest old → BringsHome gives shows cache (of thread) old new → HaveJoined later new
      joined-more rest later thread old new next joined brings = (
        joined.0 ++ of thread ∷ [],
        append_assoc joined.0 (of thread ∷ []) (map of later) ∙ ap (λ l. joined.0 ++ map of l) (sym next) ∙ joined.1,
        one-more-comes joined.0 old new (of thread) joined.2 brings,
      )

      joined-by : (rest : List X) (firsts lasts : List SharedView) → length rest ≡ 0 → firsts ++ map of rest ≡ map of all
          → Come firsts lasts → Come (map of all) lasts
      joined-by [] firsts lasts none is come = rw (sym is, append-nil firsts) come
      joined-by (it ∷ rest) firsts lasts none is come = absurd cc

      pub joined-all : (rest : List X) (lasts : List SharedView) → length rest ≡ 0 → HaveJoined rest lasts → Come (map of all) lasts
      joined-all rest lasts none joined = joined-by rest joined.0 lasts none joined.1 joined.2

    pub come-here : (firsts lasts : List SharedView) → Come firsts lasts → All (Belongs cache) lasts
    come-here [] [] come = All-nil (Belongs cache)
    come-here [] (it ∷ lasts) come = elim come [ ]
    come-here (it ∷ firsts) [] come = elim come [ ]
    come-here (one ∷ firsts) (two ∷ lasts) come =
        All-cons (Belongs cache) two lasts come.0.here (come-here firsts lasts come.1)

    pub all-have-stores : (history : List Store) (firsts lasts : List SharedView) → Come firsts lasts
        → All (IsWhole history) lasts → All (λ seat. HasStoresOf gives shows history seat.seat) firsts
    all-have-stores history [] [] come whole = All-nil (λ seat. HasStoresOf gives shows history seat.seat)
    all-have-stores history [] (it ∷ lasts) come whole = elim come [ ]
    all-have-stores history (it ∷ firsts) [] come whole = elim come [ ]
    all-have-stores history (one ∷ firsts) (two ∷ lasts) come whole =
        All-cons (λ seat. HasStoresOf gives shows history seat.seat) one firsts
        (has-stores history one.seat two.seat come.0.stored (All-head (IsWhole history) two lasts whole))
        (all-have-stores history firsts lasts come.1 (All-tail (IsWhole history) two lasts whole))
