-- The links of slots by their keys, as slots come and are left.
use Rattle.std.proofs.Common.{◌≡◌, ◌⊎◌, ℕ, suc, zero, ◌<◌, ◌≤◌, ◌+◌, inl, inr, List, [], ◌∷◌, ◌++◌, Some, length, map, get_or, set, ◌-◌, Bool, true, false, refl, sym, ap, ◌∙◌, arith}
use Rattle.std.specs.List.{All, slice_get}
use Rattle.std.specs.Option.{option_map}
use Rattle.std.proofs.lemmas.Bool.{cases_eq, cases_lt}
use Rattle.std.proofs.lemmas.List.{get_or-set_other, get_or-set_same, get_or_past, length-map, length_push, map-append, map-set, set-get_or}
use Rattle.std.proofs.lemmas.List.Elements.{All-set, All-weaker}
use Rattle.std.proofs.lemmas.Option.{get_or_from_slice_get, slice_get-map, slice_get_within}
use Rattle.sip_resolver.specs.SlotIndexes.{AreLinked, IsTakenUnder, LinkSlots, LinksView, class_of, end_of, first_of}
use Rattle.sip_resolver.specs.declared.slot_links.KeyedSlot.{KeyedSlot}

-- ---- a list with one more, and with another element at a place

module _ {X : Type 0} (y : X) where
  further : (x z : X) (xs : List X) (p : ℕ) → (slice_get xs p ≡ Some x) ⊎ ((p ≡ length xs) × (x ≡ y))
      → (slice_get (z ∷ xs) (suc p) ≡ Some x) ⊎ ((suc p ≡ length (z ∷ xs)) × (x ≡ y))
  further x z xs p (inl old) = inl old
  further x z xs p (inr (at, same)) = inr (ap (λ n. suc n) at, same)

  pub old-or-last : (xs : List X) (x : X) (p : ℕ) → slice_get (xs ++ y ∷ []) p ≡ Some x
      → (slice_get xs p ≡ Some x) ⊎ ((p ≡ length xs) × (x ≡ y))
  old-or-last [] x zero is = inr (refl, cc)
  old-or-last [] x (suc p) is = absurd cc
  old-or-last (z ∷ xs) x zero is = inl is
  old-or-last (z ∷ xs) x (suc p) is = further x z xs p (old-or-last xs x p is)

  pub stays : (xs : List X) (x : X) (p : ℕ) → slice_get xs p ≡ Some x → slice_get (xs ++ y ∷ []) p ≡ Some x
  stays [] x p is = absurd cc
  stays (z ∷ xs) x zero is = is
  stays (z ∷ xs) x (suc p) is = stays xs x p is

  pub last-there : (xs : List X) → slice_get (xs ++ y ∷ []) (length xs) ≡ Some y
  last-there [] = refl
  last-there (z ∷ xs) = last-there xs

  other-further : (x z : X) (xs : List X) (p q : ℕ) → ((q ≡ p → ⊥) × (slice_get xs q ≡ Some x)) ⊎ ((q ≡ p) × (x ≡ y))
      → ((suc q ≡ suc p → ⊥) × (slice_get (z ∷ xs) (suc q) ≡ Some x)) ⊎ ((suc q ≡ suc p) × (x ≡ y))
  other-further x z xs p q (inl (apart, is)) = inl ((λ same. apart (omega (arith, same))), is)
  other-further x z xs p q (inr (at, same)) = inr (ap (λ n. suc n) at, same)

  pub other-or-set : (xs : List X) (x : X) (p q : ℕ) → slice_get (set xs p y) q ≡ Some x
      → ((q ≡ p → ⊥) × (slice_get xs q ≡ Some x)) ⊎ ((q ≡ p) × (x ≡ y))
  other-or-set [] x p q is = absurd cc
  other-or-set (z ∷ xs) x zero zero is = inr (refl, cc)
  other-or-set (z ∷ xs) x zero (suc q) is = inl ((λ same. omega (arith, same)), is)
  other-or-set (z ∷ xs) x (suc p) zero is = inl ((λ same. omega (arith, same)), is)
  other-or-set (z ∷ xs) x (suc p) (suc q) is = other-further x z xs p q (other-or-set xs x p q is)

-- ---- the keys of slots

abbrev pub keys_of : List KeyedSlot → List ℕ
keys_of slots = map (λ slot. slot.key) slots

pub key-there : (slots : List KeyedSlot) (place : ℕ) (slot : KeyedSlot) → slice_get slots place ≡ Some slot
    → slice_get (keys_of slots) place ≡ Some slot.key
key-there slots place slot is =
    slice_get-map (λ (slot : KeyedSlot). slot.key) slots place ∙ ap (λ found. option_map (λ (slot : KeyedSlot). slot.key) found) is

pub taken-key : (slots : List KeyedSlot) (place key : ℕ) → IsTakenUnder slots place key → slice_get (keys_of slots) place ≡ Some key
taken-key slots place key is = key-there slots place (record { key = key; is_taken = true }) is

-- ---- one slot more

module _ (it : LinksView) (place key begun : ℕ) (of_firsts : class_of key it < length it.firsts) (of_ends : class_of key it < length it.ends)
    (room : place + 1 < length it.nexts) where
  abbrev pub with_slot : LinksView
  with_slot = record {
    firsts = set it.firsts (class_of key it) begun;
    ends = set it.ends (class_of key it) (place + 1);
    nexts = set (set it.nexts (end_of key it) place) (place + 1) (place + 1);
    mask = it.mask;
  }

  abbrev IsMate : ℕ → Type 0
  IsMate other = class_of other it ≡ class_of key it

  end-mate : (other : ℕ) → IsMate other → end_of other with_slot ≡ place + 1
  end-mate other mate = rw mate (get_or-set_same it.ends (class_of key it) (place + 1) 0 of_ends)

  end-apart : (other : ℕ) → (IsMate other → ⊥) → end_of other with_slot ≡ end_of other it
  end-apart other apart = get_or-set_other it.ends (class_of key it) (class_of other it) (place + 1) 0 apart

  end-same : (other : ℕ) → IsMate other → end_of other it ≡ end_of key it
  end-same other mate = ap (λ class. get_or it.ends class 0) mate

  module _ (keys : List ℕ) (long : length keys ≡ place) (so : AreLinked keys it) where
    end-within : end_of key it ≤ place
    end-within = let small = so.within (class_of key it) 0 of_ends in omega (arith, small, long)

    next-last : (at : ℕ) → at < place → at + 1 ≡ end_of key it → get_or with_slot.nexts (at + 1) 0 ≡ place
    next-last at before is =
        get_or-set_other (set it.nexts (end_of key it) place) (place + 1) (at + 1) (place + 1) 0 (λ same. omega (arith, same, before))
        ∙ rw is (get_or-set_same it.nexts (end_of key it) place 0 (let small = end-within in omega (arith, small, room)))

    next-kept : (at : ℕ) → at < place → (at + 1 ≡ end_of key it → ⊥) → get_or with_slot.nexts (at + 1) 0 ≡ get_or it.nexts (at + 1) 0
    next-kept at before other =
        get_or-set_other (set it.nexts (end_of key it) place) (place + 1) (at + 1) (place + 1) 0 (λ same. omega (arith, same, before))
        ∙ get_or-set_other it.nexts (end_of key it) (at + 1) place 0 other

    all-within : All (λ end. end ≤ length (keys ++ key ∷ [])) with_slot.ends
    all-within =
        let more = length_push keys key in
        All-set (λ end. end ≤ length (keys ++ key ∷ [])) it.ends (class_of key it) (place + 1) (omega (arith, more, long))
        (All-weaker (λ end. end ≤ length keys) (λ end. end ≤ length (keys ++ key ∷ [])) (λ end small. omega (arith, more, small))
        it.ends so.within)

    ends-by : (at other : ℕ) → (slice_get keys at ≡ Some other) ⊎ ((at ≡ length keys) × (other ≡ key)) → IsMate other ⊎ (IsMate other → ⊥)
        → at < end_of other with_slot
    ends-by at other (inl is) (inl mate) =
        let end = end-mate other mate in
        let within = slice_get_within keys at other is in omega (arith, end, within, long)
    ends-by at other (inl is) (inr apart) = rw (end-apart other apart) (so.ends at other is)
    ends-by at other (inr (last, me)) (inl mate) = let end = end-mate other mate in omega (arith, end, last, long)
    ends-by at other (inr (last, me)) (inr apart) = absurd (apart (ap (λ n. class_of n it) me))

    lasts-by : (of last : ℕ) → end_of of with_slot ≡ last + 1 → IsMate of ⊎ (IsMate of → ⊥)
        → (other : ℕ) × (slice_get (keys ++ key ∷ []) last ≡ Some other) × (class_of other it ≡ class_of of it)
    lasts-by of last is (inl mate) =
        let end = end-mate of mate in
        let at : last ≡ length keys = omega (arith, end, is, long) in
        (key, rw at (last-there key keys), sym mate)
    lasts-by of last is (inr apart) = step (so.lasts of last (sym (end-apart of apart) ∙ is))
      where
        step : (other : ℕ) × (slice_get keys last ≡ Some other) × (class_of other it ≡ class_of of it)
            → (other : ℕ) × (slice_get (keys ++ key ∷ []) last ≡ Some other) × (class_of other it ≡ class_of of it)
        step (other, there, same) = (other, stays key keys other last there, same)

    -- the slot right in front of the end is of the class
    next-old : (at later one other : ℕ) → at < later → slice_get keys at ≡ Some one → slice_get keys later ≡ Some other
        → class_of one it ≡ class_of other it → (at + 1 ≡ end_of key it) ⊎ (at + 1 ≡ end_of key it → ⊥)
        → get_or with_slot.nexts (at + 1) 0 ≤ later
    next-old at later one other before first second same (inl is) = step (so.lasts key at (sym is))
      where
        step : (mate : ℕ) × (slice_get keys at ≡ Some mate) × IsMate mate → get_or with_slot.nexts (at + 1) 0 ≤ later
        step (mate, there, is-mate) =
            let one-is : one ≡ mate = cc in
            let other-mate : IsMate other = sym same ∙ ap (λ n. class_of n it) one-is ∙ is-mate in
            let end = so.ends later other second in
            let its = end-same other other-mate in
            absurd (omega (arith, end, its, is, before))
    next-old at later one other before first second same (inr apart) =
        let within = slice_get_within keys at one first in
        rw (next-kept at (omega (arith, within, long)) apart) (so.nexts at later one other before first second same)

    next-new : (at one : ℕ) → slice_get keys at ≡ Some one → IsMate one → (at + 1 ≡ end_of key it) ⊎ (at + 1 ≡ end_of key it → ⊥)
        → get_or with_slot.nexts (at + 1) 0 ≤ place
    next-new at one first mate (inl is) =
        let within = slice_get_within keys at one first in
        let next = next-last at (omega (arith, within, long)) is in omega (arith, next)
    next-new at one first mate (inr apart) =
        let within = slice_get_within keys at one first in
        let end = so.ends at one first in
        let its = end-same one mate in
        let more : at + 1 < end_of key it = omega (arith, end, its, apart) in
        let small = end-within in
        step (end_of key it - 1) (omega (arith, more)) (so.lasts key (end_of key it - 1) (omega (arith, more)))
      where
        step : (last : ℕ) → at < last × (last + 1 ≡ end_of key it)
            → (other : ℕ) × (slice_get keys last ≡ Some other) × IsMate other → get_or with_slot.nexts (at + 1) 0 ≤ place
        step last (before, is) (other, there, is-mate) =
            let within = slice_get_within keys at one first in
            let in-front = slice_get_within keys last other there in
            let next = so.nexts at last one other before first there (mate ∙ sym is-mate) in
            let kept = next-kept at (omega (arith, within, long)) apart in
            omega (arith, next, kept, in-front, long)

    nexts-by : (at later one other : ℕ) → at < later → (slice_get keys at ≡ Some one) ⊎ ((at ≡ length keys) × (one ≡ key))
        → (slice_get keys later ≡ Some other) ⊎ ((later ≡ length keys) × (other ≡ key)) → class_of one it ≡ class_of other it
        → get_or with_slot.nexts (at + 1) 0 ≤ later
    nexts-by at later one other before (inl first) (inl second) same =
        next-old at later one other before first second same (cases_eq (at + 1) (end_of key it))
    nexts-by at later one other before (inl first) (inr (last, me)) same =
        let next = next-new at one first (same ∙ ap (λ n. class_of n it) me) (cases_eq (at + 1) (end_of key it)) in
        omega (arith, next, last, long)
    nexts-by at later one other before (inr (last, me)) (inl second) same =
        let within = slice_get_within keys later other second in absurd (omega (arith, within, last, before))
    nexts-by at later one other before (inr (last, me)) (inr (end, too)) same = absurd (omega (arith, last, end, before))

    pub linked-more : AreLinked (keys ++ key ∷ []) with_slot
    linked-more = record {
      within = all-within;
      ends = λ at other is. ends-by at other (old-or-last key keys other at is) (cases_eq (class_of other it) (class_of key it));
      lasts = λ of last is. lasts-by of last is (cases_eq (class_of of it) (class_of key it));
      nexts = λ at later one other before first second same.
          nexts-by at later one other before (old-or-last key keys one at first) (old-or-last key keys other later second) same;
    }

  module _ (begins : end_of key it ≤ first_of key it → begun ≡ place) (goes-on : first_of key it < end_of key it → begun ≡ first_of key it)
      (slots : List KeyedSlot) (is_taken : Bool) (long : length slots ≡ place) (so : LinkSlots slots it) where
    abbrev slot : KeyedSlot
    slot = record { key = key; is_taken = is_taken }

    first-mate : (other : ℕ) → IsMate other → first_of other with_slot ≡ begun
    first-mate other mate = rw mate (get_or-set_same it.firsts (class_of key it) begun 0 of_firsts)

    first-apart : (other : ℕ) → (IsMate other → ⊥) → first_of other with_slot ≡ first_of other it
    first-apart other apart = get_or-set_other it.firsts (class_of key it) (class_of other it) begun 0 apart

    keys-long : length (keys_of slots) ≡ place
    keys-long = length-map slots (λ (slot : KeyedSlot). slot.key) ∙ long

    -- where one of its class waits, the class has begun
    begun-old : (other later : ℕ) → IsTakenUnder slots later other → IsMate other
        → (first_of key it < end_of key it) ⊎ (end_of key it ≤ first_of key it)
        → begun ≤ later
    begun-old other later waits mate (inl before) =
        let first = so.firsts other later waits in
        let same = ap (λ class. get_or it.firsts class 0) mate in
        let is = goes-on before in omega (arith, first, same, is)
    begun-old other later waits mate (inr over) =
        let first = so.firsts other later waits in
        let same = ap (λ class. get_or it.firsts class 0) mate in
        let end = so.linked.ends later other (taken-key slots later other waits) in
        let its = end-same other mate in
        absurd (omega (arith, first, same, end, its, over))

    begun-new : (first_of key it < end_of key it) ⊎ (end_of key it ≤ first_of key it) → begun ≤ place
    begun-new (inl before) =
        let is = goes-on before in
        let small = end-within (keys_of slots) keys-long so.linked in omega (arith, is, before, small)
    begun-new (inr over) = let is = begins over in omega (arith, is)

    old-first : (other later : ℕ) → IsTakenUnder slots later other → IsMate other ⊎ (IsMate other → ⊥) → first_of other with_slot ≤ later
    old-first other later waits (inl mate) =
        rw (first-mate other mate) (begun-old other later waits mate (cases_lt (first_of key it) (end_of key it)))
    old-first other later waits (inr apart) = rw (first-apart other apart) (so.firsts other later waits)

    first-by : (other later : ℕ)
        → (slice_get slots later ≡ Some (record { key = other; is_taken = true }))
        ⊎ ((later ≡ length slots) × (record { key = other; is_taken = true } ≡ slot))
        → first_of other with_slot ≤ later
    first-by other later (inl is) = old-first other later is (cases_eq (class_of other it) (class_of key it))
    first-by other later (inr (last, same)) =
        let me : other ≡ key = ap (λ (slot : KeyedSlot). slot.key) same in
        let is = first-mate other (ap (λ n. class_of n it) me) in
        let small = begun-new (cases_lt (first_of key it) (end_of key it)) in
        omega (arith, is, small, last, long)

    pub links-more : LinkSlots (slots ++ slot ∷ []) with_slot
    links-more = record {
      linked = rw (map-append (λ (slot : KeyedSlot). slot.key) slots (slot ∷ [])) (linked-more (keys_of slots) keys-long so.linked);
      firsts = λ other later is. first-by other later (old-or-last slot slots (record { key = other; is_taken = true }) later is);
    }

-- ---- a slot becomes empty

module _ (it : LinksView) (place key passed : ℕ) (of_firsts : class_of key it < length it.firsts)
    (passes : first_of key it ≡ place → passed ≡ get_or it.nexts (place + 1) 0)
    (goes-on : (first_of key it ≡ place → ⊥) → passed ≡ first_of key it) (slots : List KeyedSlot) (was_taken : Bool)
    (there : slice_get slots place ≡ Some (record { key = key; is_taken = was_taken })) (so : LinkSlots slots it) where
  abbrev pub without_slot : LinksView
  without_slot = record it { firsts = set it.firsts (class_of key it) passed }

  abbrev empty : KeyedSlot
  empty = record { key = key; is_taken = false }

  same-keys : keys_of (set slots place empty) ≡ keys_of slots
  same-keys =
      let is = key-there slots place (record { key = key; is_taken = was_taken }) there in
      map-set (λ (slot : KeyedSlot). slot.key) slots place empty
      ∙ ap (λ its. set (keys_of slots) place its) (sym (get_or_from_slice_get (keys_of slots) place key 0 is))
      ∙ set-get_or (keys_of slots) place 0

  passed-by : (other later : ℕ) → (later ≡ place → ⊥) → IsTakenUnder slots later other → class_of other it ≡ class_of key it
      → (first_of key it ≡ place) ⊎ (first_of key it ≡ place → ⊥) → passed ≤ later
  passed-by other later apart waits mate (inl is) =
      let first = so.firsts other later waits in
      let same = ap (λ class. get_or it.firsts class 0) mate in
      let next = so.linked.nexts place later key other (omega (arith, first, same, is, apart))
      (key-there slots place (record { key = key; is_taken = was_taken }) there) (taken-key slots later other waits) (sym mate) in
      let now = passes is in omega (arith, next, now)
  passed-by other later apart waits mate (inr isnt) =
      let first = so.firsts other later waits in
      let same = ap (λ class. get_or it.firsts class 0) mate in
      let now = goes-on isnt in omega (arith, first, same, now)

  left-first : (other later : ℕ) → (later ≡ place → ⊥) → IsTakenUnder slots later other
      → (class_of other it ≡ class_of key it) ⊎ (class_of other it ≡ class_of key it → ⊥) → first_of other without_slot ≤ later
  left-first other later apart waits (inl mate) =
      let is : first_of other without_slot ≡ passed = rw mate (get_or-set_same it.firsts (class_of key it) passed 0 of_firsts) in
      let small = passed-by other later apart waits mate (cases_eq (first_of key it) place) in omega (arith, is, small)
  left-first other later apart waits (inr not-mate) =
      rw (get_or-set_other it.firsts (class_of key it) (class_of other it) passed 0 not-mate) (so.firsts other later waits)

  left-by : (other later : ℕ)
      → ((later ≡ place → ⊥) × (slice_get slots later ≡ Some (record { key = other; is_taken = true })))
      ⊎ ((later ≡ place) × (record { key = other; is_taken = true } ≡ empty))
      → first_of other without_slot ≤ later
  left-by other later (inl (apart, is)) = left-first other later apart is (cases_eq (class_of other it) (class_of key it))
  left-by other later (inr (at, same)) =
      let none : true ≡ false = ap (λ (slot : KeyedSlot). slot.is_taken) same in absurd cc

  linked-still : AreLinked (keys_of slots) without_slot
  linked-still = record {
    within = so.linked.within;
    ends = so.linked.ends;
    lasts = so.linked.lasts;
    nexts = so.linked.nexts;
  }

  pub links-less : LinkSlots (set slots place empty) without_slot
  links-less = record {
    linked = rw same-keys linked-still;
    firsts = λ other later is.
        left-by other later (other-or-set empty slots (record { key = other; is_taken = true }) place later is);
  }

-- ---- a search

module _ (it : LinksView) (slots : List KeyedSlot) (so : LinkSlots slots it) where
  end-by : (key n : ℕ) → end_of key it ≡ n → n ≤ length slots
  end-by key zero is = omega arith
  end-by key (suc last) is = step (so.linked.lasts key last (is ∙ omega arith))
    where
      step : (other : ℕ) × (slice_get (keys_of slots) last ≡ Some other) × (class_of other it ≡ class_of key it) → suc last ≤ length slots
      step (other, there, same) =
          let within = slice_get_within (keys_of slots) last other there in
          let long = length-map slots (λ (slot : KeyedSlot). slot.key) in omega (arith, within, long)

  pub end-inside : (key : ℕ) → end_of key it ≤ length slots
  end-inside key = end-by key (end_of key it) refl

module _ (it : LinksView) (slots : List KeyedSlot) (so : LinkSlots slots it) (key place : ℕ) where
  -- behind the slot of another key of the class the search goes on at the next one
  pub none-to-next : (other : ℕ) → slice_get (keys_of slots) place ≡ Some other → class_of other it ≡ class_of key it
      → ((at : ℕ) → IsTakenUnder slots at key → place + 1 ≤ at)
      → (at : ℕ) → IsTakenUnder slots at key → get_or it.nexts (place + 1) 0 ≤ at
  none-to-next other there same none = λ later waits.
      let behind = none later waits in
      so.linked.nexts place later other key (omega (arith, behind)) there (taken-key slots later key waits) same

  -- none waits at or behind the end
  pub none-behind : end_of key it ≤ place → ((at : ℕ) → IsTakenUnder slots at key → place ≤ at)
      → (at : ℕ) → IsTakenUnder slots at key → ⊥
  none-behind over none later waits =
      let before = so.linked.ends later key (taken-key slots later key waits) in
      let behind = none later waits in
      omega (arith, over, before, behind)

pub no-links : (it : LinksView) → All (λ end. end ≤ 0) it.ends → LinkSlots [] it
no-links it none = record {
  linked = record {
    within = none;
    ends = λ place key is. absurd cc;
    lasts = λ key last is. absurd (step key last is (cases_lt (class_of key it) (length it.ends)));
    nexts = λ place later key other before is. absurd cc;
  };
  firsts = λ key later is. absurd cc;
}
  where
    step : (key last : ℕ) → end_of key it ≡ last + 1 → (class_of key it < length it.ends) ⊎ (length it.ends ≤ class_of key it) → ⊥
    step key last is (inl within) = let small = none (class_of key it) 0 within in omega (arith, is, small)
    step key last is (inr past) = let zero-there = get_or_past it.ends (class_of key it) 0 past in omega (arith, is, zero-there)
