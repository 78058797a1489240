-- A generation that begins.
use Rattle.std.proofs.Common.{◌≡◌, ◌+◌, ℕ, zero, suc, List, [], ◌∷◌, ◌++◌, length, map, refl, ap, sym, subst, ◌∙◌, arith}
use Rattle.std.proofs.lemmas.List.{append-nil, length-append, length-map}
use Rattle.std.proofs.lemmas.List.FromFn.{length-range_with_len}
use Rattle.std.proofs.lemmas.List.Elements.{All-cons, All-head, All-map, All-nil, All-push, All-tail}
use Rattle.std.specs.List.{All, range_with_len}
use mathlib.Core.List.{IsPrefix}
use Rattle.answer_log.specs.declared.store.Store.{Store}
use Rattle.answer_cache.proofs.Placing.{prefix-trans}
use Rattle.answer_cache.specs.Carried.{CarriedView, IsCarried, carried_stores, seat_after}
use Rattle.answer_cache.specs.Seats.{SeatView}
use Rattle.answer_cache.specs.Shared.{Belongs, CacheView, SharedView, NoticeView, new_seat}
use Rattle.rolling_cache.specs.Eras.{Descends, Era, begun_with, era_of}
use Rattle.rolling_cache.specs.Rolling.{AreLeft, GenerationView, HandsOver, IsFresh, IsFreshAt, RollingView, generation_of, rolling_of}

all-under : {X Y : Type 0} (P : Y → Type 0) (f : X → Y) (xs : List X) → All P (map f xs) → All (λ x. P (f x)) xs
all-under P f [] all = All-nil (λ x. P (f x))
all-under P f (x ∷ xs) all =
    All-cons (λ x. P (f x)) x xs (All-head P (f x) (map f xs) all) (all-under P f xs (All-tail P (f x) (map f xs) all))

fresh : (cache : CacheView) (past : List Era) (seat : SharedView) → Belongs cache seat
    → seat.seat.seen ≡ carried_stores (begun_with past) → seat.seat.offered ≡ []
    → IsFresh (rolling_of (generation_of cache past) seat)
fresh cache past seat here seen offered = record {
  at = record { here = here; begins = ([], append-nil (carried_stores (begun_with past)) ∙ sym seen) };
  seen = seen;
  offered = offered;
  ending = refl;
}

-- the seats of a new cache are fresh in the first generation
fresh-first : (cache : CacheView) (seats : ℕ) (past : List Era) (items : List SharedView)
    → past ≡ [] → All (Belongs cache) items → items ≡ map (new_seat cache) (range_with_len 0 seats)
    → All (λ seat. IsFresh (rolling_of (generation_of cache past) seat)) items
fresh-first cache seats past items none belong are =
    let G : List Era → Type 0 = λ l. All (λ seat. IsFresh (rolling_of (generation_of cache l) seat)) items in
    subst G (sym none) (λ k d low. fresh cache [] _ (belong k d low) (empty k d low).0 (empty k d low).1)
  where
    empty : All (λ seat. (seat.seat.seen ≡ []) × (seat.seat.offered ≡ [])) items
    empty =
        let A : List SharedView → Type 0 = λ l. All (λ seat. (seat.seat.seen ≡ []) × (seat.seat.offered ≡ [])) l in
        subst A (sym are)
        (All-map (λ (seat : SharedView). (seat.seat.seen ≡ []) × (seat.seat.offered ≡ [])) (new_seat cache) (range_with_len 0 seats)
        (λ k d low. (refl, refl)))

-- those of a successor are fresh in the next one
fresh-next : (cache : CacheView) (seats : ℕ) (told : NoticeView) (carried : CarriedView) (older past : List Era)
    (items : List SharedView) → past ≡ era_of told carried ∷ older → All (Belongs cache) items
    → map (λ seat. seat.seat) items ≡ map (seat_after carried) (range_with_len 0 seats)
    → All (λ seat. IsFresh (rolling_of (generation_of cache past) seat)) items
fresh-next cache seats told carried older past items is belong are =
    let G : List Era → Type 0 = λ l. All (λ seat. IsFresh (rolling_of (generation_of cache l) seat)) items in
    subst G (sym is) (λ k d low. fresh cache (era_of told carried ∷ older) _ (belong k d low) (begun k d low).0 (begun k d low).1)
  where
    begun : All (λ seat. (seat.seat.seen ≡ carried_stores carried.offers) × (seat.seat.offered ≡ [])) items
    begun =
        let A : List SeatView → Type 0 = λ l. All (λ seat. (seat.seen ≡ carried_stores carried.offers) × (seat.offered ≡ [])) l in
        all-under (λ (seat : SeatView). (seat.seen ≡ carried_stores carried.offers) × (seat.offered ≡ []))
        (λ (seat : SharedView). seat.seat) items
        (subst A (sym are)
        (All-map (λ (seat : SeatView). (seat.seen ≡ carried_stores carried.offers) × (seat.offered ≡ [])) (seat_after carried)
        (range_with_len 0 seats) (λ k d low. (refl, refl))))

-- the next one descends from what the one before it handed on
pub law_descends-next : (old new : List Store) (now : ℕ) (told : NoticeView) (carried : CarriedView) (older past : List Era)
    → past ≡ era_of told carried ∷ older → Descends older → IsPrefix (carried_stores (begun_with older)) old
    → IsPrefix old new → told.seen ≡ new → IsCarried old new now carried → Descends past
law_descends-next old new now told carried older past is before begins later seen it =
    let D : List Era → Type 0 = λ l. Descends l in
    let B : List Store → Type 0 = λ stores. IsPrefix (carried_stores (begun_with older)) stores in
    let C : List Store → Type 0 = λ stores. IsCarried old stores now carried in
    subst D (sym is) (
      record {
        begins = subst B (sym seen) (prefix-trans (carried_stores (begun_with older)) old new begins later);
        before = old;
        moment = now;
        carried = subst C (sym seen) it;
      },
      before,
    )

pub over : (now : ℕ) (old : RollingView) (seat : SharedView) (told : NoticeView) (carried : CarriedView) (made : GenerationView)
    → made.past ≡ era_of told carried ∷ old.generation.past → told.cache ≡ old.generation.cache → told.seen ≡ seat.seat.seen
    → IsCarried old.seat.seat.seen seat.seat.seen now carried → carried.groups ≡ old.generation.cache.groups
    → made.cache.groups ≡ carried.groups → HandsOver now old (rolling_of made seat)
over now old seat told carried made past cache seen it was groups =
    record {
      seen = seat.seat.seen;
      handed = carried;
      carried = it;
      told = told;
      past = past;
      was = was;
      groups = groups ∙ was;
      cache = cache;
      is = seen;
    }

pub one-more : (generation : GenerationView) (made more : List RollingView) (seat : RollingView)
    → more ≡ made ++ seat ∷ [] → All (IsFreshAt generation) made → IsFresh seat → seat.generation ≡ generation
    → All (IsFreshAt generation) more
one-more generation made more seat is all fresh here =
    let A : List RollingView → Type 0 = λ l. All (IsFreshAt generation) l in
    subst A (sym is) (All-push (IsFreshAt generation) made seat all (record { fresh = fresh; here = here }))

-- what holds of all holds of the last one
pub all-last : {X : Type 0} (P : X → Type 0) (xs : List X) (x : X) → All P (xs ++ x ∷ []) → P x
all-last P [] x all = All-head P x [] all
all-last P (y ∷ xs) x all = all-last P xs x (All-tail P y (xs ++ x ∷ []) all)

-- numbers of what is made of the numbers from one on
numbers-of : {X : Type 0} (f : X → ℕ) (g : ℕ → X) → ((n : ℕ) → f (g n) ≡ n) → (a size : ℕ)
    → map f (map g (range_with_len a size)) ≡ range_with_len a size
numbers-of f g same a zero = refl
numbers-of f g same a (suc size) = λ i. same a i ∷ numbers-of f g same (a + 1) size i

numbers-left : {X : Type 0} (f : X → ℕ) (g : ℕ → X) → ((n : ℕ) → f (g n) ≡ n) → (seats : ℕ) (items : List X)
    → map f items ≡ map f (map g (range_with_len 0 seats)) → map f items ≡ range_with_len 0 (length items)
numbers-left f g same seats items are =
    let are-all : map f items ≡ range_with_len 0 seats = are ∙ numbers-of f g same 0 seats in
    let size : length items ≡ seats =
    sym (length-map items f) ∙ (ap (λ l. length l) are-all ∙ length-range_with_len 0 seats) in
    are-all ∙ ap (λ n. range_with_len 0 n) (sym size)

-- the seats of a new cache are left in the first generation
pub left-first : (cache : CacheView) (seats : ℕ) (past : List Era) (items : List SharedView)
    → past ≡ [] → All (Belongs cache) items → items ≡ map (new_seat cache) (range_with_len 0 seats)
    → AreLeft (generation_of cache past) items
left-first cache seats past items none belong are = record {
  fresh = fresh-first cache seats past items none belong are;
  numbers = numbers-left (λ seat. seat.seat.number) (new_seat cache) (λ n. refl) seats items (ap (map (λ seat. seat.seat.number)) are);
}

maps-through : {X Y Z : Type 0} (f : X → Y) (g : Y → Z) (xs : List X) → map (λ x. g (f x)) xs ≡ map g (map f xs)
maps-through f g [] = refl
maps-through f g (x ∷ xs) = ap (λ l. g (f x) ∷ l) (maps-through f g xs)

-- those of a successor are left in the next one
pub left-next : (cache : CacheView) (seats : ℕ) (told : NoticeView) (carried : CarriedView) (older past : List Era)
    (items : List SharedView) → past ≡ era_of told carried ∷ older → All (Belongs cache) items
    → map (λ seat. seat.seat) items ≡ map (seat_after carried) (range_with_len 0 seats)
    → AreLeft (generation_of cache past) items
left-next cache seats told carried older past items is belong are = record {
  fresh = fresh-next cache seats told carried older past items is belong are;
  numbers = by-seats;
}
  where
    number : SeatView → ℕ
    number seat = seat.number

    seats-of : List SeatView
    seats-of = map (λ (seat : SharedView). seat.seat) items

    by-seats : map (λ (seat : SharedView). seat.seat.number) items ≡ range_with_len 0 (length items)
    by-seats =
        maps-through (λ (seat : SharedView). seat.seat) number items
        ∙ (numbers-left number (seat_after carried) (λ n. refl) seats seats-of (ap (map number) are)
        ∙ ap (λ n. range_with_len 0 n) (length-map items (λ (seat : SharedView). seat.seat)))

range-next : (from size : ℕ) → range_with_len from (suc size) ≡ range_with_len from size ++ (from + size) ∷ []
range-next from zero = ap (λ n. n ∷ []) (omega arith)
range-next from (suc size) =
    let same : (from + 1) + size ≡ from + suc size = omega arith in
    ap (λ rest. from ∷ rest) (range-next (from + 1) size ∙ ap (λ n. range_with_len (from + 1) size ++ n ∷ []) same)

-- where a list with one more is the numbers from 0 on, so is the list, and the one is its length
snoc-parts : (xs ys : List ℕ) (x y : ℕ) → xs ++ x ∷ [] ≡ ys ++ y ∷ [] → (xs ≡ ys) × (x ≡ y)
snoc-parts [] [] x y is = (refl, cc (is))
snoc-parts [] (b ∷ []) x y is = absurd (cc (is))
snoc-parts [] (b ∷ c ∷ ys) x y is = absurd (cc (is))
snoc-parts (a ∷ []) [] x y is = absurd (cc (is))
snoc-parts (a ∷ c ∷ xs) [] x y is = absurd (cc (is))
snoc-parts (a ∷ xs) (b ∷ ys) x y is =
    let head : a ≡ b = cc (is) in
    let tail : xs ++ x ∷ [] ≡ ys ++ y ∷ [] = cc (is) in
    let rest = snoc-parts xs ys x y tail in
    ((λ i. head i ∷ rest.0 i), rest.1)

map-snoc : (f : SharedView → ℕ) (xs : List SharedView) (x : SharedView) → map f (xs ++ x ∷ []) ≡ map f xs ++ f x ∷ []
map-snoc f [] x = refl
map-snoc f (y ∷ xs) x = ap (λ l. f y ∷ l) (map-snoc f xs x)

abbrev number-of : SharedView → ℕ
number-of = λ (seat : SharedView). seat.seat.number

numbers-last : (xs : List SharedView) (x : SharedView)
    → map number-of (xs ++ x ∷ []) ≡ range_with_len 0 (length (xs ++ x ∷ []))
    → (map number-of xs ≡ range_with_len 0 (length xs)) × (number-of x ≡ length xs)
numbers-last xs x are =
    let size : length (xs ++ x ∷ []) ≡ suc (length xs) = omega (arith, length-append xs (x ∷ [])) in
    let zero-more : 0 + length xs ≡ length xs = omega arith in
    let rest = snoc-parts (map number-of xs) (range_with_len 0 (length xs)) (number-of x) (0 + length xs)
    (sym (map-snoc number-of xs x) ∙ (are ∙ (ap (λ n. range_with_len 0 n) size ∙ range-next 0 (length xs)))) in
    (rest.0, rest.1 ∙ zero-more)

-- what holds of all but the last one
all-but-last : {X : Type 0} (P : X → Type 0) (xs : List X) (x : X) → All P (xs ++ x ∷ []) → All P xs
all-but-last P [] x all = All-nil P
all-but-last P (y ∷ xs) x all = All-cons P y xs (All-head P y (xs ++ x ∷ []) all) (all-but-last P xs x (All-tail P y (xs ++ x ∷ []) all))

-- of the seats that are left, the last one is given out
pub left-last : (generation : GenerationView) (xs more : List SharedView) (x : SharedView) → more ≡ xs ++ x ∷ [] → AreLeft generation more
    → AreLeft generation xs × IsFresh (rolling_of generation x) × (x.seat.number ≡ length xs) × (length more ≡ length xs + 1)
left-last generation xs more x is left =
    let P : SharedView → Type 0 = λ seat. IsFresh (rolling_of generation seat) in
    let A : List SharedView → Type 0 = λ seats. AreLeft generation seats in
    let here : AreLeft generation (xs ++ x ∷ []) = subst A is left in
    let numbers = numbers-last xs x here.numbers in (
      record { fresh = all-but-last P xs x here.fresh; numbers = numbers.0 },
      all-last P xs x here.fresh,
      numbers.1,
      ap (λ l. length l) is ∙ omega (arith, length-append xs (x ∷ [])),
    )
