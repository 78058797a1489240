-- A table of places, and what is done with the list.
use Rattle.std.proofs.Common.{◌≡◌, ◌==◌, ℕ, suc, ◌≤◌, Bool, true, false, not, nat_eq, List, [], ◌∷◌, ◌++◌, length, Option, Some, None, MatchOption, refl, sym, ap, ◌∙◌, arith, rules}
use Rattle.std.specs.List.{All, filter, find}
use Rattle.std.specs.Map.{update}
use Rattle.std.specs.Option.{option_map, option_or}
use Rattle.std.proofs.lemmas.List.{length-append}
use Rattle.std.proofs.lemmas.List.Elements.{filter-append}
use Rattle.std.proofs.lemmas.List.Folds.{find-append}
use Rattle.pending_list.specs.Ids.{Id}
use Rattle.pending_list.specs.Pending.{IsTakenOut, Pending, entry_of, placed}
use Rattle.pending_list.specs.declared.entry.Entry.{Entry}
use Rattle.dns_queries.proofs.Listing.{both, counted-in, found-has, none-found}
use Rattle.dns_queries.specs.Listed.{Finds, IsKept, asking_of, is_of, pending_id_of, resent}
use Rattle.dns_queries.specs.Tickets.{IsAsking, Sent}
use Rattle.dns_queries.specs.declared.schedule.Schedule.{Schedule}

module _ {X : Type 0} (q : X → Bool) where
  none-passes-by : (x : X) (xs : List X) (is : Bool) → q x ≡ is → length (filter q (x ∷ xs)) ≡ 0
      → (length (filter q xs) ≡ 0 → find q xs ≡ None) → find q (x ∷ xs) ≡ None
  none-passes-by x xs true is none rest = let none' = rw is at none in absurd (omega arith)
  none-passes-by x xs false is none rest = let none' = rw is at none in rw is (rest none')

  none-passes : (xs : List X) → length (filter q xs) ≡ 0 → find q xs ≡ None
  none-passes [] none = refl
  none-passes (x ∷ xs) none = none-passes-by x xs (q x) refl none (none-passes xs)

  rest-fails : (x : X) (xs : List X) → q x ≡ true → length (filter q (x ∷ xs)) ≤ 1 → length (filter q xs) ≡ 0
  rest-fails x xs is single = let single' = rw is at single in omega (arith, single')

  rest-single : (x : X) (xs : List X) → q x ≡ false → length (filter q (x ∷ xs)) ≤ 1 → length (filter q xs) ≤ 1
  rest-single x xs is single = rw is at single

module _ {X : Type 0} (p q : X → Bool) where
  abbrev in-parts : List X → Option X
  in-parts xs = option_or (find q (filter p xs)) (find q (filter (λ it. not (p it)) xs))

  front-fails : (xs : List X) → length (filter q xs) ≡ 0 → find q (filter p xs) ≡ None
  front-fails xs none = none-passes q (filter p xs) (let all = both p q xs in omega (arith, all, none))

  parted-by : (x : X) (xs : List X) (is of : Bool) → p x ≡ is → q x ≡ of → length (filter q (x ∷ xs)) ≤ 1
      → (length (filter q xs) ≤ 1 → in-parts xs ≡ find q xs) → in-parts (x ∷ xs) ≡ find q (x ∷ xs)
  parted-by x xs true true is of single rest = rw (is, of) refl
  parted-by x xs true false is of single rest = rw (is, of) (rest (rest-single q x xs of single))
  parted-by x xs false true is of single rest = rw (is, of, front-fails xs (rest-fails q x xs of single)) refl
  parted-by x xs false false is of single rest = rw (is, of) (rest (rest-single q x xs of single))

  -- where at most one passes, it is found in its part
  parted : (xs : List X) → length (filter q xs) ≤ 1 → in-parts xs ≡ find q xs
  parted [] single = refl
  parted (x ∷ xs) single = parted-by x xs (p x) (q x) refl refl single (parted xs)

  -- one more, which fails
  pub other-put : (x : X) (xs : List X) → q x ≡ false → length (filter q xs) ≤ 1
      → find q (filter p xs ++ x ∷ filter (λ it. not (p it)) xs) ≡ find q xs
  other-put x xs is single = find-append q (filter p xs) (x ∷ filter (λ it. not (p it)) xs) ∙ (rw is (parted xs single))

  -- one more, which passes as the only one
  pub only-put : (x : X) (xs : List X) → q x ≡ true → length (filter q xs) ≡ 0
      → find q (filter p xs ++ x ∷ filter (λ it. not (p it)) xs) ≡ Some x
  only-put x xs is none = find-append q (filter p xs) (x ∷ filter (λ it. not (p it)) xs) ∙ (rw (is, front-fails xs none) refl)

module _ {X : Type 0} (q : X → Bool) (front : List X) (x : X) (back : List X) where
  -- one that fails is taken out
  pub other-out : q x ≡ false → find q (front ++ back) ≡ find q (front ++ x ∷ back)
  other-out is = find-append q front back ∙ sym (find-append q front (x ∷ back) ∙ (rw is refl))

  -- the only one that passes is taken out
  pub only-out : q x ≡ true → length (filter q (front ++ x ∷ back)) ≤ 1 → find q (front ++ back) ≡ None
  only-out is single =
      let parts = ap length (filter-append q front (x ∷ back)) ∙ length-append (filter q front) (filter q (x ∷ back)) in
      let behind : length (filter q (x ∷ back)) ≡ suc (length (filter q back)) = rw is refl in
      let left = ap length (filter-append q front back) ∙ length-append (filter q front) (filter q back) in
      none-passes q (front ++ back) (omega (arith, single, parts, behind, left))

-- ---- the places of the ids

same-id : (id other : ℕ) → (id == other) ≡ true → id ≡ other
same-id id other is = search rules

single-of : (schedule : Schedule) (list : Pending Sent) (it : IsAsking (asking_of schedule list)) (id : ℕ)
    → length (filter (is_of id) list.entries) ≤ 1
single-of schedule list it id = let single = it.single id in rw (counted-in id list.entries) at single

module _ (schedule : Schedule) (list : Pending Sent) (it : IsAsking (asking_of schedule list)) where
  more-by : (entry : Entry Sent) (other : ℕ) (is : Bool) → (entry.item.id == other) ≡ is → find (is_of entry.item.id) list.entries ≡ None
      → pending_id_of (placed entry list.entries) other ≡ update nat_eq (pending_id_of list.entries) entry.item.id (Some entry.id) other
  more-by entry other true is free =
      let same = same-id entry.item.id other is in
      let none = none-found (is_of other) list.entries (rw same at free) in
      rw (is, only-put _ (is_of other) entry list.entries is none) refl
  more-by entry other false is free =
      rw (is, other-put _ (is_of other) entry list.entries is (single-of schedule list it other)) refl

  -- an entry more, of an id that has none
  pub pending_id_of-placed : (entry : Entry Sent) (other : ℕ) → find (is_of entry.item.id) list.entries ≡ None
      → pending_id_of (placed entry list.entries) other ≡ update nat_eq (pending_id_of list.entries) entry.item.id (Some entry.id) other
  pending_id_of-placed entry other = more-by entry other (entry.item.id == other) refl

  without-by : (entry : Entry Sent) (left : List (Entry Sent)) (out : IsTakenOut list.entries entry left) (other : ℕ) (is : Bool)
      → (entry.item.id == other) ≡ is → pending_id_of left other ≡ update nat_eq (pending_id_of list.entries) entry.item.id None other
  without-by entry left out other true is =
      let single = rw out.whole at (single-of schedule list it other) in
      rw (is, out.left_is, only-out (is_of other) out.front entry out.back is single) refl
  without-by entry left out other false is =
      rw (is, out.left_is, out.whole, other-out (is_of other) out.front entry out.back is) refl

  -- an entry is taken out
  pub pending_id_of-out : (entry : Entry Sent) (left : List (Entry Sent)) → IsTakenOut list.entries entry left → (other : ℕ)
      → pending_id_of left other ≡ update nat_eq (pending_id_of list.entries) entry.item.id None other
  pending_id_of-out entry left out other = without-by entry left out other (entry.item.id == other) refl

  module _ (first : Entry Sent) (others : List (Entry Sent)) (whole : list.entries ≡ first ∷ others) where
    resent-by : (deadline other : ℕ) (is : Bool) → (first.item.id == other) ≡ is
        → pending_id_of (placed (resent deadline first) others) other ≡ pending_id_of (first ∷ others) other
    resent-by deadline other true is =
        let single = rw whole at (single-of schedule list it other) in
        let none = rest-fails (is_of other) first others is single in
        rw (is, only-put _ (is_of other) (resent deadline first) others is none) refl
    resent-by deadline other false is =
        let single = rw whole at (single-of schedule list it other) in
        rw (is, other-put _ (is_of other) (resent deadline first) others is (rest-single (is_of other) first others is single)) refl

    -- the first entry is sent once more
    pub pending_id_of-resent : (deadline other : ℕ) → pending_id_of (placed (resent deadline first) others) other
        ≡ pending_id_of list.entries other
    pending_id_of-resent deadline other = rw whole (resent-by deadline other (first.item.id == other) refl)

-- ---- the table, and the list

update-same : (f g : ℕ → Option Id) (id other : ℕ) (place : Option Id) (key : ℕ) → f key ≡ g key → id ≡ other
    → update nat_eq f id place key ≡ update nat_eq g other place key
update-same f g id other place key same is = rw (is, same) refl

module _ (schedule : Schedule) (list : Pending Sent) (place : ℕ → Option Id) (it : IsKept schedule list place) (new : ℕ → Option Id) where
  -- an id more
  pub still-put : (entry : Entry Sent) (id : ℕ) → id ≡ entry.item.id → find (is_of entry.item.id) list.entries ≡ None
      → ((other : ℕ) → new other ≡ update nat_eq place id (Some entry.id) other)
      → (other : ℕ) → new other ≡ pending_id_of (placed entry list.entries) other
  still-put entry id is free changed other =
      changed other ∙ update-same place (pending_id_of list.entries) id entry.item.id (Some entry.id) other (it.places other) is
      ∙ sym (pending_id_of-placed schedule list it.asking entry other free)

  -- an id less
  pub still-out : (entry : Entry Sent) (left : List (Entry Sent)) → IsTakenOut list.entries entry left → (id : ℕ) → id ≡ entry.item.id
      → ((other : ℕ) → new other ≡ update nat_eq place id None other) → (other : ℕ) → new other ≡ pending_id_of left other
  still-out entry left out id is changed other =
      changed other ∙ update-same place (pending_id_of list.entries) id entry.item.id None other (it.places other) is
      ∙ sym (pending_id_of-out schedule list it.asking entry left out other)

  -- the id of the first entry less
  pub still-rest : (first : Entry Sent) (others : List (Entry Sent)) → list.entries ≡ first ∷ others → (id : ℕ) → id ≡ first.item.id
      → ((other : ℕ) → new other ≡ update nat_eq place id None other) → (other : ℕ) → new other ≡ pending_id_of others other
  still-rest first others whole = still-out first others (record { front = []; back = others; whole = whole; left_is = refl })

-- what the table says of an id is so of the list
told-by : (list : Pending Sent) (id : ℕ) → All (λ it. entry_of it.id list.entries ≡ Some it) list.entries
    → (found : Option (Entry Sent)) → find (is_of id) list.entries ≡ found
    → MatchOption (option_map (λ (it : Entry Sent). it.id) found) (find (is_of id) list.entries ≡ None) (Finds list.entries id)
told-by list id all None is = is
told-by list id all (Some entry) is = record {
  entry = entry;
  first = is;
  there = (found-has (is_of id) (λ it. entry_of it.id list.entries ≡ Some it) list.entries entry all is).0;
}

pub place-told : (list : Pending Sent) (id : ℕ) → All (λ it. entry_of it.id list.entries ≡ Some it) list.entries
    → (at : Option Id) → at ≡ pending_id_of list.entries id → MatchOption at (find (is_of id) list.entries ≡ None) (Finds list.entries id)
place-told list id all at is = rw is (told-by list id all (find (is_of id) list.entries) refl)
