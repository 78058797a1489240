-- What is carried of a history.
use Rattle.std.proofs.Common.{◌≡◌, ◌≢◌, ◌+◌, ◌<◌, ◌≤◌, ◌==◌, ℕ, zero, suc, Bool, true, false, List, [], ◌∷◌, ◌++◌, length, map, refl, ap}
use Rattle.std.proofs.Common.{sym, ◌∙◌, arith, subst, nat_lt}
use Rattle.std.proofs.lemmas.Bool.{eqb-true, eqb-false, ne_eqb}
use Rattle.std.proofs.lemmas.Bool.Decides.{nat_tests}
use Rattle.std.proofs.lemmas.List.{append-nil, length-append, length-map, map-append}
use Rattle.std.proofs.lemmas.List.Elements.{All-append, All-cons, All-filter, All-head, All-map, All-nil, All-tail, filter-append}
use Rattle.std.specs.List.{All, filter, flat_map, range_with_len}
use mathlib.Core.List.{IsPrefix}
use Rattle.answer_log.specs.Groups.{group_in, group_limit}
use Rattle.answer_log.specs.Histories.{IsHistory, IsSound, in_group}
use Rattle.answer_log.specs.declared.store.Store.{Store}
use Rattle.answer_cache.specs.Carried.{IsCarriedOf, carried_stores, has_question, last_stores, lives_at, living_of, unseated}
use Rattle.answer_cache.specs.Lists.{own_store}
use Rattle.answer_cache.specs.Seats.{Offer}

-- the last stores of their questions are some of the stores
pub all-lasts : (P : Store → Type 0) (stores : List Store) → All P stores → All P (last_stores stores)
all-lasts P [] all = all
all-lasts P (store ∷ later) all =
    by-test (has_question store.question later) refl (all-lasts P later (All-tail P store later all))
  where
    by-test : (is : Bool) → has_question store.question later ≡ is → All P (last_stores later) → All P (last_stores (store ∷ later))
    by-test true is rest = rw is rest
    by-test false is rest = rw is (All-cons P store (last_stores later) (All-head P store later all) rest)

few-lasts : (stores : List Store) → length (last_stores stores) ≤ length stores
few-lasts [] = omega arith
few-lasts (store ∷ later) = by-test (has_question store.question later) refl (few-lasts later)
  where
    by-test : (is : Bool) → has_question store.question later ≡ is → length (last_stores later) ≤ length later
        → length (last_stores (store ∷ later)) ≤ length (store ∷ later)
    by-test true is rest = rw is (omega arith)
    by-test false is rest = rw is (omega arith)

few-filter : {X : Type 0} (p : X → Bool) (xs : List X) → length (filter p xs) ≤ length xs
few-filter p [] = omega arith
few-filter p (x ∷ xs) = by-test (p x) refl (few-filter p xs)
  where
    by-test : (is : Bool) → p x ≡ is → length (filter p xs) ≤ length xs → length (filter p (x ∷ xs)) ≤ length (x ∷ xs)
    by-test true is rest = rw is (omega arith)
    by-test false is rest = rw is (omega arith)

pub none-filter : {X : Type 0} (p : X → Bool) (xs : List X) → All (λ x. p x ≡ false) xs → filter p xs ≡ []
none-filter p [] all = refl
none-filter p (x ∷ xs) all =
    rw (All-head (λ it. p it ≡ false) x xs all) (none-filter p xs (All-tail (λ it. p it ≡ false) x xs all))

module _ (P : Store → Type 0) (now : ℕ) where
  -- what is carried says what stores say
  pub carried-all : (stores : List Store) → All (λ store. P (own_store (unseated store))) stores
      → All P (carried_stores (living_of now stores))
  carried-all stores all =
      All-map P own_store (living_of now stores)
      (All-filter (lives_at now) (λ offer. P (own_store offer)) (map unseated (last_stores stores))
      (All-map (λ offer. P (own_store offer)) unseated (last_stores stores)
      (all-lasts (λ store. P (own_store (unseated store))) stores all)))

few-carried : (now : ℕ) (stores : List Store) → length (carried_stores (living_of now stores)) ≤ length stores
few-carried now stores =
    let one = length-map (living_of now stores) own_store in
    let two = few-filter (lives_at now) (map unseated (last_stores stores)) in
    let three = length-map (last_stores stores) unseated in
    let four = few-lasts stores in
    omega arith

module _ (p : Store → Bool) (f : ℕ → List Offer) where
  parts : (front back : List Offer)
      → filter p (carried_stores (front ++ back)) ≡ filter p (carried_stores front) ++ filter p (carried_stores back)
  parts front back =
      ap (filter p) (map-append own_store front back) ∙ filter-append p (carried_stores front) (carried_stores back)

  -- where no part has any
  none-of : (from size : ℕ) → ((k : ℕ) → from ≤ k → k < from + size → filter p (carried_stores (f k)) ≡ [])
      → filter p (carried_stores (flat_map f (range_with_len from size))) ≡ []
  none-of from zero none = refl
  none-of from (suc size) none =
      let here : filter p (carried_stores (f from)) ≡ [] = none from (omega arith) (omega arith) in
      let rest : filter p (carried_stores (flat_map f (range_with_len (from + 1) size))) ≡ [] =
      none-of (from + 1) size (λ k low high. none k (omega arith) (omega arith)) in
      parts (f from) (flat_map f (range_with_len (from + 1) size)) ∙ (λ i. here i ++ rest i)

  -- where one part alone has any
  pub only : (g : ℕ) → ((k : ℕ) → k ≢ g → filter p (carried_stores (f k)) ≡ []) → (from size : ℕ) → from ≤ g → g < from + size
      → filter p (carried_stores (flat_map f (range_with_len from size))) ≡ filter p (carried_stores (f g))
  only g none from zero low high = absurd (omega arith)
  only g none from (suc size) low high = by-test (from == g) refl (λ next. only g none (from + 1) size next (omega arith))
    where
      whole : filter p (carried_stores (flat_map f (range_with_len from (suc size))))
          ≡ filter p (carried_stores (f from)) ++ filter p (carried_stores (flat_map f (range_with_len (from + 1) size)))
      whole = parts (f from) (flat_map f (range_with_len (from + 1) size))

      by-test : (is : Bool) → (from == g) ≡ is
          → (from + 1 ≤ g → filter p (carried_stores (flat_map f (range_with_len (from + 1) size))) ≡ filter p (carried_stores (f g)))
          → filter p (carried_stores (flat_map f (range_with_len from (suc size)))) ≡ filter p (carried_stores (f g))
      by-test true is more =
          let same = eqb-true from g is in
          let rest : filter p (carried_stores (flat_map f (range_with_len (from + 1) size))) ≡ [] =
          none-of (from + 1) size (λ k low high. none k (λ e. absurd (omega (arith, e, same)))) in
          whole ∙ ((λ i. filter p (carried_stores (f (same i))) ++ rest i) ∙ append-nil (filter p (carried_stores (f g))))
      by-test false is more =
          let other = eqb-false from g is in
          let here : filter p (carried_stores (f from)) ≡ [] = none from other in
          whole ∙ ((λ i. here i ++ filter p (carried_stores (flat_map f (range_with_len (from + 1) size))))
          ∙ more (omega (arith, other)))

-- the stores of a group are in it
pub all-in-group : (groups group : ℕ) (stores : List Store)
    → All (λ store. group_in groups store.question ≡ group) (in_group groups group stores)
all-in-group groups group [] = All-nil (λ store. group_in groups store.question ≡ group)
all-in-group groups group (store ∷ stores) = by-test (group_in groups store.question == group) refl (all-in-group groups group stores)
  where
    by-test : (is : Bool) → (group_in groups store.question == group) ≡ is
        → All (λ it. group_in groups it.question ≡ group) (in_group groups group stores)
        → All (λ it. group_in groups it.question ≡ group) (in_group groups group (store ∷ stores))
    by-test true is rest = rw is
        (All-cons (λ it. group_in groups it.question ≡ group) store (in_group groups group stores)
        (eqb-true (group_in groups store.question) group is) rest)
    by-test false is rest = rw is rest

-- each one passes where what it needs is there
pub all-turn : {X : Type 0} (P Q : X → Type 0) → ((x : X) → P x → Q x) → (xs : List X) → All P xs → All Q xs
all-turn P Q turn [] all = All-nil Q
all-turn P Q turn (x ∷ xs) all =
    All-cons Q x xs (turn x (All-head P x xs all)) (all-turn P Q turn xs (All-tail P x xs all))

-- of what is carried of a group none is in another one
other-group : (groups now group other : ℕ) (stores : List Store) → group ≢ other
    → in_group groups other (carried_stores (living_of now (in_group groups group stores))) ≡ []
other-group groups now group other stores ne =
    none-filter (λ store. group_in groups store.question == other) (carried_stores (living_of now (in_group groups group stores)))
    (all-turn (λ store. group_in groups store.question ≡ group) (λ store. (group_in groups store.question == other) ≡ false)
    (λ store is. ne_eqb (group_in groups store.question) other (λ e. ne (sym is ∙ e)))
    (carried_stores (living_of now (in_group groups group stores)))
    (carried-all (λ store. group_in groups store.question ≡ group) now (in_group groups group stores) (all-in-group groups group stores)))

all-front : {X : Type 0} (P : X → Type 0) (xs ys : List X) → All P (xs ++ ys) → All P xs
all-front P [] ys all = All-nil P
all-front P (x ∷ xs) ys all =
    All-cons P x xs (All-head P x (xs ++ ys) all) (all-front P xs ys (All-tail P x (xs ++ ys) all))

few-front : (groups group : ℕ) (old new : List Store) → IsPrefix old new
    → length (in_group groups group old) ≤ length (in_group groups group new)
few-front groups group old new p =
    let split = ap (in_group groups group) (sym p.1) ∙ filter-append (λ it. group_in groups it.question == group) old p.0 in
    let sizes = ap length split ∙ length-append (in_group groups group old) (in_group groups group p.0) in
    omega arith

-- what is carried of some groups is a history
pub carried-history : (groups first : ℕ) (before after : List Store) (now : ℕ) (carried : List Offer)
    → IsCarriedOf groups first before after now carried → IsHistory groups after
    → IsHistory groups (carried_stores carried)
carried-history groups first before after now carried it kept =
    let H : List Offer → Type 0 = λ offers. IsHistory groups (carried_stores offers) in
    subst H (sym it.all) (record {
      sound = sound-from 0 first (omega arith);
      few = λ group. few-by group (nat_lt group first) refl;
    })
  where
    part : ℕ → List Offer
    part group = living_of now (in_group groups group (it.history group))

    sound-part : (group : ℕ) → group < first → All IsSound (carried_stores (part group))
    sound-part group low =
        let S : List Store → Type 0 = λ stores. All IsSound stores in
        let front : All IsSound (it.history group) =
        all-front IsSound (it.history group) (it.till group low).0 (subst S (sym (it.till group low).1) kept.sound) in
        carried-all IsSound now (in_group groups group (it.history group))
        (All-filter (λ store. group_in groups store.question == group) IsSound (it.history group) front)

    sound-from : (from size : ℕ) → from + size ≤ first → All IsSound (carried_stores (flat_map part (range_with_len from size)))
    sound-from from zero fits = All-nil IsSound
    sound-from from (suc size) fits =
        let S : List Store → Type 0 = λ stores. All IsSound stores in
        subst S (sym (map-append own_store (part from) (flat_map part (range_with_len (from + 1) size))))
        (All-append IsSound (carried_stores (part from)) (carried_stores (flat_map part (range_with_len (from + 1) size)))
        (sound-part from (omega arith)) (sound-from (from + 1) size (omega arith)))

    few-by : (group : ℕ) (is : Bool) → nat_lt group first ≡ is
        → length (in_group groups group (carried_stores (flat_map part (range_with_len 0 first)))) ≤ group_limit
    few-by group true is =
        let low : group < first = grind (arith, nat_tests) in
        let its = only (λ store. group_in groups store.question == group) part group
        (λ k ne. other-group groups now k group (it.history k) ne) 0 first (omega arith) (omega arith) in
        let one = few-filter (λ store. group_in groups store.question == group) (carried_stores (part group)) in
        let two = few-carried now (in_group groups group (it.history group)) in
        let three = few-front groups group (it.history group) after (it.till group low) in
        let four = kept.few group in
        let size = ap length its in
        omega arith
    few-by group false is =
        let high : first ≤ group = grind (arith, nat_tests) in
        let none = none-of (λ store. group_in groups store.question == group) part 0 first
        (λ k low less. other-group groups now k group (it.history k) (λ e. absurd (omega (arith, e)))) in
        rw none omega arith
