-- A store is added behind the others.
use Rattle.std.proofs.Common.{◌≡◌, ◌≢◌, ◌⊎◌, inl, inr, ℕ, zero, suc, ◌+◌, ◌*◌, ◌%◌, ◌<◌, ◌≤◌, ◌==◌, nat_lt, Bool, true, false, List, [], ◌∷◌, ◌++◌}
use Rattle.std.proofs.Common.{length, map, get_or, set, refl, sym, ap, ◌∙◌, arith, rules}
use Rattle.std.specs.List.{enumerate_from, filter}
use Rattle.std.specs.declared.vec.Vec.{Vec}
use Rattle.std.proofs.lemmas.Bool.{eqb-true, eqb-false, eq-eqb, ne_eqb}
use Rattle.std.proofs.lemmas.Bool.Decides.{nat_tests}
use Rattle.std.proofs.lemmas.List.{map-append, length-append, length-map, append-nil, length-set, get_or-set_same, get_or-set_other}
use Rattle.std.proofs.lemmas.List.Elements.{filter-append, All-nil, All-push}
use Rattle.answer_cache.specs.Lists.{IsGroupCount}
use Rattle.answer_cache.specs.Marks.{IsKept, mark_of, marks_from, marks_of, store_in, stores_in}
use Rattle.answer_log.specs.Groups.{group_in, group_limit, hash_of, hashed_of}
use Rattle.answer_log.specs.Histories.{IsHistory, IsSound, in_group, mine}
use Rattle.answer_log.specs.declared.store.Store.{Store}
use Rattle.answer_cache.specs.declared.carried.Entry.{Entry}
use Rattle.answer_cache.specs.declared.store_list.Mark.{Mark}

module _ (groups : ℕ) (stores : List Store) (store : Store) where
  -- the group of a store has it behind the others, and no other group has
  pub one-more : (number : ℕ) → group_in groups store.question ≡ number
      → in_group groups number (stores ++ store ∷ []) ≡ in_group groups number stores ++ store ∷ []
  one-more number is =
      rw (filter-append (λ it. group_in groups it.question == number) stores (store ∷ []), is, eq-eqb number number refl) refl

  pub no-more : (number : ℕ) → group_in groups store.question ≢ number
      → in_group groups number (stores ++ store ∷ []) ≡ in_group groups number stores
  no-more number other =
      rw (filter-append (λ it. group_in groups it.question == number) stores (store ∷ []), ne_eqb (group_in groups store.question) number other)
      (append-nil (in_group groups number stores))

pub low : (groups n : ℕ) → 0 < groups → n % groups < groups
low groups n some = omega arith

room-left : (size : ℕ) → ((group_limit ≤ size) → ⊥) → size < group_limit
room-left size room = grind arith

-- Each store is in one group, so there are no more than all groups have.
module _ (groups : ℕ) where
  abbrev below : ℕ → Store → Bool
  below most store = nat_lt (group_in groups store.question) most

  one-by-one : (most : ℕ) (stores : List Store)
      → length (filter (below (most + 1)) stores) ≡ length (filter (below most) stores) + length (in_group groups most stores)
  one-by-one most [] = refl
  one-by-one most (store ∷ stores) = by-test _ refl _ refl _ refl (one-by-one most stores)
    where
      by-test : (up : Bool) → nat_lt (group_in groups store.question) (most + 1) ≡ up
          → (low : Bool) → nat_lt (group_in groups store.question) most ≡ low
          → (here : Bool) → (group_in groups store.question == most) ≡ here
          → length (filter (below (most + 1)) stores) ≡ length (filter (below most) stores) + length (in_group groups most stores)
          → length (filter (below (most + 1)) (store ∷ stores))
          ≡ length (filter (below most) (store ∷ stores)) + length (in_group groups most (store ∷ stores))
      by-test true u true l true h more = absurd (grind (arith, nat_tests))
      by-test true u true l false h more = rw (u, l, h) (omega (arith, more))
      by-test true u false l true h more = rw (u, l, h) (omega (arith, more))
      by-test true u false l false h more = absurd (grind (arith, nat_tests))
      by-test false u true l here h more = absurd (grind (arith, nat_tests))
      by-test false u false l true h more = absurd (grind (arith, nat_tests))
      by-test false u false l false h more = rw (u, l, h) more

  few-below : (most : ℕ) (stores : List Store) → ((group : ℕ) → length (in_group groups group stores) ≤ group_limit)
      → length (filter (below most) stores) ≤ most * group_limit
  few-below zero stores few = none stores
    where
      none : (stores : List Store) → length (filter (below 0) stores) ≤ 0
      none [] = omega arith
      none (store ∷ stores) = rw (no (group_in groups store.question)) (none stores)
        where
          no : (n : ℕ) → nat_lt n 0 ≡ false
          no n = grind (arith, nat_tests)
  few-below (suc most) stores few =
      let next : suc most ≡ most + 1 = omega arith in
      let rest = few-below most stores few in
      let more = one-by-one most stores in
      let here = few most in
      rw next (omega (arith, rest, more, here))

  all-below : 0 < groups → (stores : List Store) → filter (below groups) stores ≡ stores
  all-below some [] = refl
  all-below some (store ∷ stores) =
      rw (in-one (hash_of (hashed_of store.question))) (ap (λ l. store ∷ l) (all-below some stores))
    where
      in-one : (n : ℕ) → nat_lt (n % groups) groups ≡ true
      in-one n = let small = low groups n some in grind (arith, nat_tests)

  -- there are at most 8,388,608 entries
  pub few-stores : (entries : List Entry) → IsGroupCount groups → IsHistory groups (stores_in entries) → length entries ≤ 8388608
  few-stores entries count history =
      let most = count.most in
      let some : 0 < groups = let least = count.least in omega (arith, least) in
      let few = few-below groups (stores_in entries) history.few in
      let all = ap length (all-below some (stores_in entries)) in
      let sizes = length-map entries store_in in
      omega (arith, most, few, all, sizes)

enumerate-append : (first : ℕ) (one other : List Entry)
    → enumerate_from first (one ++ other) ≡ enumerate_from first one ++ enumerate_from (first + length one) other
enumerate-append first [] other = let e : first ≡ first + 0 = omega arith in ap (λ n. enumerate_from n other) e
enumerate-append first (entry ∷ one) other =
    let e : first + 1 + length one ≡ first + length (entry ∷ one) = omega arith in
    ap (λ l. (first, entry) ∷ l) (enumerate-append (first + 1) one other
    ∙ ap (λ n. enumerate_from (first + 1) one ++ enumerate_from n other) e)

module _ (groups : ℕ) (entries : List Entry) (entry : Entry) where
  abbrev its : ℕ
  its = group_in groups entry.question

  stores-more : stores_in (entries ++ entry ∷ []) ≡ stores_in entries ++ store_in entry ∷ []
  stores-more = map-append store_in entries (entry ∷ [])

  abbrev in-it : ℕ → ℕ × Entry → Bool
  in-it number it = group_in groups it.1.question == number

  behind : enumerate_from 0 (entries ++ entry ∷ []) ≡ enumerate_from 0 entries ++ (length entries, entry) ∷ []
  behind =
      let e : 0 + length entries ≡ length entries = omega arith in
      enumerate-append 0 entries (entry ∷ []) ∙ ap (λ n. enumerate_from 0 entries ++ enumerate_from n (entry ∷ [])) e

  marks-split : (number : ℕ) → marks_of groups number (entries ++ entry ∷ [])
      ≡ marks_of groups number entries ++ map mark_of (filter (in-it number) ((length entries, entry) ∷ []))
  marks-split number =
      ap (λ l. map mark_of (filter (in-it number) l)) behind
      ∙ (ap (map mark_of) (filter-append (in-it number) (enumerate_from 0 entries) ((length entries, entry) ∷ []))
      ∙ map-append mark_of (filter (in-it number) (enumerate_from 0 entries)) (filter (in-it number) ((length entries, entry) ∷ [])))

  -- its group has a mark more, and no other group has
  marks-more : marks_of groups its (entries ++ entry ∷ []) ≡ marks_of groups its entries ++ mark_of (length entries, entry) ∷ []
  marks-more = marks-split its ∙ rw (eq-eqb its its refl) refl

  marks-stay : (number : ℕ) → its ≢ number → marks_of groups number (entries ++ entry ∷ []) ≡ marks_of groups number entries
  marks-stay number other = marks-split number ∙ rw (ne_eqb its number other) (append-nil (marks_of groups number entries))

  few-by : (number : ℕ) (is : Bool) → (its == number) ≡ is
      → length (in_group groups its (stores_in entries)) < group_limit
      → length (in_group groups number (stores_in entries)) ≤ group_limit
      → length (in_group groups number (stores_in entries ++ store_in entry ∷ [])) ≤ group_limit
  few-by number true is room few =
      let same = eqb-true its number is in
      let more = length-append (in_group groups number (stores_in entries)) (store_in entry ∷ []) in
      let room' = rw same at room in
      rw (one-more groups (stores_in entries) (store_in entry) number same, more) omega arith
  few-by number false is room few =
      let other = eqb-false its number is in
      rw (no-more groups (stores_in entries) (store_in entry) number other) few

  history-more : IsSound (store_in entry) → length (in_group groups its (stores_in entries)) < group_limit
      → IsHistory groups (stores_in entries) → IsHistory groups (stores_in entries ++ store_in entry ∷ [])
  history-more sound room it = record {
    sound = All-push IsSound (stores_in entries) (store_in entry) it.sound sound;
    few = λ number. few-by number (its == number) refl room (it.few number);
  }

  module _ {Z : Type 0} (old : List (Vec Mark Z)) (new : Vec Mark Z) where
    each-by : (number : ℕ) (other : Vec Mark Z) (is : Bool) → (its == number) ≡ is → number < length old
        → new.items ≡ marks_of groups its (entries ++ entry ∷ [])
        → (get_or old number other).items ≡ marks_of groups number entries
        → (get_or (set old its new) number other).items ≡ marks_of groups number (entries ++ entry ∷ [])
    each-by number other true is low more kept =
        let same = eqb-true its number is in
        rw (same, get_or-set_same old number new other low) (more ∙ ap (λ n. marks_of groups n (entries ++ entry ∷ [])) same)
    each-by number other false is low more kept =
        let not = eqb-false its number is in
        rw (get_or-set_other old its number new other (λ e. not (sym e))) (kept ∙ sym (marks-stay number not))

    kept-by : IsSound (store_in entry) → length (in_group groups its (stores_in entries)) < group_limit
        → new.items ≡ marks_of groups its entries ++ mark_of (length entries, entry) ∷ [] → length old ≡ groups
        → IsKept groups entries old → IsKept groups (entries ++ entry ∷ []) (set old its new)
    kept-by sound room more all it = record {
      count = it.count;
      history = rw stores-more (history-more sound room it.history);
      size = inl (length-set old its new ∙ all);
      each = λ group other low.
          let same = length-set old its new in
          let within : group < length old = omega (arith, same, low) in
          each-by group other (its == group) refl within (more ∙ sym marks-more) (it.each group other within);
    }

    pub kept-more : (number : ℕ) → number ≡ its → IsSound (store_in entry)
        → ((group_limit ≤ length (in_group groups its (stores_in entries))) → ⊥)
        → (other : Vec Mark Z) (mark : Mark) → mark.hash ≡ hash_of (hashed_of entry.question) → mark.place ≡ length entries
        → new.items ≡ (get_or old number other).items ++ mark ∷ [] → length old ≡ groups
        → IsKept groups entries old → IsKept groups (entries ++ entry ∷ []) (set old number new)
    kept-more number is sound room other mark hash place more all it =
        let here : mark ≡ mark_of (length entries, entry) = λ i. record { hash = hash i; place = place i } in
        let some : 0 < groups = let least = it.count.least in omega (arith, least) in
        let small = low groups (hash_of (hashed_of entry.question)) some in
        let within : its < length old = rw all small in
        let there = it.each its other within in
        rw is (kept-by sound (room-left (length (in_group groups its (stores_in entries))) room)
        (more ∙ (ap (λ n. (get_or old n other).items ++ mark ∷ []) is ∙ (λ i. there i ++ here i ∷ []))) all it)

-- a group has as many marks as stores
as-many : (groups number first : ℕ) (entries : List Entry)
    → length (marks_from groups number first entries) ≡ length (in_group groups number (stores_in entries))
as-many groups number first [] = refl
as-many groups number first (entry ∷ entries) =
    by-test (group_in groups entry.question == number) refl (as-many groups number (first + 1) entries)
  where
    by-test : (is : Bool) → (group_in groups entry.question == number) ≡ is
        → length (marks_from groups number (first + 1) entries) ≡ length (in_group groups number (stores_in entries))
        → length (marks_from groups number first (entry ∷ entries)) ≡ length (in_group groups number (stores_in (entry ∷ entries)))
    by-test true is more = rw is (ap suc more)
    by-test false is more = rw is more

module _ {Z : Type 0} (groups : ℕ) (entries : List Entry) (marks : List (Vec Mark Z)) (it : IsKept groups entries marks) where
  pub some-groups : 0 < groups
  some-groups = let least = it.count.least in omega (arith, least)

  pub counted : (number : ℕ) (other : Vec Mark Z) → number < length marks
      → length (get_or marks number other).items ≡ length (in_group groups number (stores_in entries))
  counted number other low = ap length (it.each number other low) ∙ as-many groups number 0 entries

  -- where there is no list for a group, there is no entry
  pub nothing-kept : (number : ℕ) → number < groups → length marks ≤ number → entries ≡ []
  nothing-kept number low none = by-size it.size
    where
      by-size : (length marks ≡ groups) ⊎ ((length marks ≡ 0) × (entries ≡ [])) → entries ≡ []
      by-size (inl all) = absurd (omega (arith, low, none, all))
      by-size (inr nothing) = nothing.1

  -- a list that has the same marks keeps them
  pub kept-same : (number : ℕ) → number < length marks → (other new : Vec Mark Z) → new.items ≡ (get_or marks number other).items
      → IsKept groups entries (set marks number new)
  kept-same number low other new same = record {
    count = it.count;
    history = it.history;
    size = by-size it.size;
    each = λ group d below.
        let within : group < length marks = let n = length-set marks number new in omega (arith, n, below) in
        by-test group d within (number == group) refl;
  }
    where
      by-size : (length marks ≡ groups) ⊎ ((length marks ≡ 0) × (entries ≡ []))
          → (length (set marks number new) ≡ groups) ⊎ ((length (set marks number new) ≡ 0) × (entries ≡ []))
      by-size (inl all) = inl (length-set marks number new ∙ all)
      by-size (inr nothing) = let none = nothing.0 in absurd (omega (arith, low, none))

      by-test : (group : ℕ) (d : Vec Mark Z) → group < length marks → (is : Bool) → (number == group) ≡ is
          → (get_or (set marks number new) group d).items ≡ marks_of groups group entries
      by-test group d within true is =
          let at = eqb-true number group is in
          rw (← at, get_or-set_same marks number new d low) (same ∙ it.each number other low)
      by-test group d within false is =
          let not = eqb-false number group is in
          rw (get_or-set_other marks number group new d (λ e. not (sym e))) (it.each group d within)

-- where there are none
pub kept-none : {Z : Type 0} (groups : ℕ) → IsGroupCount groups → (marks : List (Vec Mark Z)) → marks ≡ [] → IsKept groups [] marks
kept-none groups count marks none = record {
  count = count;
  history = record { sound = All-nil IsSound; few = λ number. search rules };
  size = inr (ap length none, refl);
  each = λ group other low. let size = ap length none in absurd (omega (arith, size, low));
}

-- all stores are of the one seat
pub own-all : (entries : List Entry) → mine (stores_in entries) 0 ≡ stores_in entries
own-all [] = refl
own-all (entry ∷ entries) = ap (λ l. store_in entry ∷ l) (own-all entries)
