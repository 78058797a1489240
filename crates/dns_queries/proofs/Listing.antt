-- Tickets in their list.
use Rattle.std.proofs.Common.{◌≡◌, ℕ, suc, ◌+◌, ◌<◌, ◌≤◌, Bool, true, false, cond, not, nat_le, List, [], ◌∷◌, ◌++◌, length, map, Option, Some, None, IsSome, MatchOption, is_some, refl, sym, ap, ◌∙◌, arith, rules}
use Rattle.std.specs.List.{All, filter, find, slice_get}
use Rattle.std.specs.Option.{option_map}
use Rattle.std.specs.Bool.{IsTrue}
use Rattle.std.proofs.lemmas.List.{length-append, length-map, map-append}
use Rattle.std.proofs.lemmas.List.Elements.{All-head, All-tail, filter-append}
use Rattle.pending_list.specs.Ids.{Id}
use Rattle.pending_list.specs.Pending.{IsTakenOut, Pending, entry_of, placed}
use Rattle.pending_list.specs.declared.entry.Entry.{Entry}
use Rattle.dns_queries.specs.Events.{Refuses}
use Rattle.dns_queries.specs.Listed.{CannotOpen, asking_of, is_of, ticket_in}
use Rattle.dns_queries.specs.Tickets.{Sent, Ticket, has_id, waiting_too}
use Rattle.dns_queries.specs.Tickets as tickets
use Rattle.dns_queries.specs.declared.refusal.AskRefusal.{AskRefusal}
use Rattle.dns_queries.specs.declared.refusal.AskRefusal.TheVariants.{IdTaken, Full, Spent, Memory}
use Rattle.dns_queries.specs.declared.schedule.Schedule.{Schedule}

module _ {X Y : Type 0} (f : X → Y) (p : Y → Bool) where
  filter-map-by : (x : X) (xs : List X) (is : Bool) → p (f x) ≡ is → filter p (map f xs) ≡ map f (filter (λ it. p (f it)) xs)
      → filter p (map f (x ∷ xs)) ≡ map f (filter (λ it. p (f it)) (x ∷ xs))
  filter-map-by x xs true is rest = rw (is, rest) refl
  filter-map-by x xs false is rest = rw (is, rest) refl

  pub filter-map : (xs : List X) → filter p (map f xs) ≡ map f (filter (λ it. p (f it)) xs)
  filter-map [] = refl
  filter-map (x ∷ xs) = filter-map-by x xs (p (f x)) refl (filter-map xs)

  find-map-by : (x : X) (xs : List X) (is : Bool) → p (f x) ≡ is → find p (map f xs) ≡ option_map f (find (λ it. p (f it)) xs)
      → find p (map f (x ∷ xs)) ≡ option_map f (find (λ it. p (f it)) (x ∷ xs))
  find-map-by x xs true is rest = rw is refl
  find-map-by x xs false is rest = rw is rest

  pub find-map : (xs : List X) → find p (map f xs) ≡ option_map f (find (λ it. p (f it)) xs)
  find-map [] = refl
  find-map (x ∷ xs) = find-map-by x xs (p (f x)) refl (find-map xs)

module _ {X : Type 0} (p : X → Bool) where
  found-by : (P : X → Type 0) (x : X) (xs : List X) (found : X) (is : Bool) → p x ≡ is → All P (x ∷ xs)
      → cond is (Some x) (find p xs) ≡ Some found → (find p xs ≡ Some found → P found × (p found ≡ true)) → P found × (p found ≡ true)
  found-by P x xs found true is all e rest = let same : x ≡ found = cc in rw (← same) (All-head P x xs all, is)
  found-by P x xs found false is all e rest = rest e

  -- what is found has what all have, and passes
  pub found-has : (P : X → Type 0) (xs : List X) (found : X) → All P xs → find p xs ≡ Some found → P found × (p found ≡ true)
  found-has P [] found all e = absurd cc
  found-has P (x ∷ xs) found all e = found-by P x xs found (p x) refl all e (found-has P xs found (All-tail P x xs all))

  none-found-by : (x : X) (xs : List X) (is : Bool) → p x ≡ is → cond is (Some x) (find p xs) ≡ None
      → (find p xs ≡ None → length (filter p xs) ≡ 0) → length (filter p (x ∷ xs)) ≡ 0
  none-found-by x xs true is e rest = absurd cc
  none-found-by x xs false is e rest = rw is (rest e)

  pub none-found : (xs : List X) → find p xs ≡ None → length (filter p xs) ≡ 0
  none-found [] e = refl
  none-found (x ∷ xs) e = none-found-by x xs (p x) refl e (none-found xs)

  all-stay-by : (x : X) (xs : List X) (is : Bool) → p x ≡ is → length (filter p (x ∷ xs)) ≡ 0
      → (length (filter p xs) ≡ 0 → filter (λ it. not (p it)) xs ≡ xs) → filter (λ it. not (p it)) (x ∷ xs) ≡ x ∷ xs
  all-stay-by x xs true is none rest = let none' = rw is at none in absurd (omega arith)
  all-stay-by x xs false is none rest = let none' = rw is at none in rw (is, rest none') refl

  -- where none passes, all are left
  pub all-stay : (xs : List X) → length (filter p xs) ≡ 0 → filter (λ it. not (p it)) xs ≡ xs
  all-stay [] none = refl
  all-stay (x ∷ xs) none = all-stay-by x xs (p x) refl none (all-stay xs)

module _ {X : Type 0} (p q : X → Bool) where
  both-by : (x : X) (xs : List X) (is of : Bool) → p x ≡ is → q x ≡ of
      → length (filter q (filter p xs)) + length (filter q (filter (λ it. not (p it)) xs)) ≡ length (filter q xs)
      → length (filter q (filter p (x ∷ xs))) + length (filter q (filter (λ it. not (p it)) (x ∷ xs))) ≡ length (filter q (x ∷ xs))
  both-by x xs true true is of both = rw (is, of) omega (arith, both)
  both-by x xs true false is of both = rw (is, of) both
  both-by x xs false true is of both = rw (is, of) omega (arith, both)
  both-by x xs false false is of both = rw (is, of) both

  pub both : (xs : List X) → length (filter q (filter p xs)) + length (filter q (filter (λ it. not (p it)) xs)) ≡ length (filter q xs)
  both [] = refl
  both (x ∷ xs) = both-by x xs (p x) (q x) refl refl (both xs)

  -- an element more, wherever it is put
  pub counted : (x : X) (xs : List X)
      → length (filter q (filter p xs ++ x ∷ filter (λ it. not (p it)) xs)) ≡ length (filter q (x ∷ [])) + length (filter q xs)
  counted x xs =
      let behind = filter (λ it. not (p it)) xs in
      let parts = ap length (filter-append q (filter p xs) (x ∷ behind)) ∙ length-append (filter q (filter p xs)) (filter q (x ∷ behind)) in
      let here = ap length (filter-append q (x ∷ []) behind) ∙ length-append (filter q (x ∷ [])) (filter q behind) in
      omega (arith, parts, here, both xs)

module _ {X : Type 0} (q : X → Bool) where
  first-counted-by : (x : X) (xs : List X) (is : Bool) → q x ≡ is
      → length (filter q (x ∷ [])) + length (filter q xs) ≡ length (filter q (x ∷ xs))
  first-counted-by x xs true is = rw is omega arith
  first-counted-by x xs false is = rw is omega arith

  pub first-counted : (x : X) (xs : List X) → length (filter q (x ∷ [])) + length (filter q xs) ≡ length (filter q (x ∷ xs))
  first-counted x xs = first-counted-by x xs (q x) refl

  -- where one passes and no second, all others fail
  pub between : (front : List X) (x : X) (back : List X) → q x ≡ true → length (filter q (front ++ x ∷ back)) ≤ 1
      → filter (λ it. not (q it)) (front ++ x ∷ back) ≡ front ++ back
  between front x back is single =
      let parts = ap length (filter-append q front (x ∷ back)) ∙ length-append (filter q front) (filter q (x ∷ back)) in
      let behind : length (filter q (x ∷ back)) ≡ suc (length (filter q back)) = rw is refl in
      let no-front : length (filter q front) ≡ 0 = omega (arith, single, parts, behind) in
      let no-back : length (filter q back) ≡ 0 = omega (arith, single, parts, behind) in
      filter-append (λ it. not (q it)) front (x ∷ back) ∙ (rw (all-stay q front no-front, is, all-stay q back no-back) refl)

-- ---- the list, seen as tickets

pub mapped-placed : (entry : Entry Sent) (entries : List (Entry Sent))
    → map ticket_in (placed entry entries) ≡ waiting_too (ticket_in entry) (map ticket_in entries)
mapped-placed entry entries =
    let in-front : Entry Sent → Bool = λ it. nat_le it.deadline entry.deadline in
    map-append ticket_in (filter in-front entries) (entry ∷ filter (λ it. not (in-front it)) entries)
    ∙ (rw (
      filter-map ticket_in (λ it. nat_le it.deadline entry.deadline) entries,
      filter-map ticket_in (λ it. not (nat_le it.deadline entry.deadline)) entries,
    ) refl)

-- as many of an id
pub counted-in : (id : ℕ) (entries : List (Entry Sent))
    → length (filter (has_id id) (map ticket_in entries)) ≡ length (filter (is_of id) entries)
counted-in id entries = rw (filter-map ticket_in (has_id id) entries, length-map (filter (is_of id) entries) ticket_in) refl

pub mapped-out : (id : ℕ) (entries : List (Entry Sent)) (entry : Entry Sent) (left : List (Entry Sent)) → IsTakenOut entries entry left
    → is_of id entry ≡ true → length (filter (has_id id) (map ticket_in entries)) ≤ 1
    → map ticket_in left ≡ tickets.without id (map ticket_in entries)
mapped-out id entries entry left out is single =
    let one : length (filter (is_of id) entries) ≤ 1 = rw (counted-in id entries) at single in
    let here = between (is_of id) out.front entry out.back is (rw out.whole at one) in
    sym (filter-map ticket_in (λ it. not (has_id id it)) entries
    ∙ ap (map ticket_in) (ap (filter (λ it. not (is_of id it))) out.whole ∙ here ∙ sym out.left_is))

-- the first entry, whose id and deadline are told
pub record Leads (entries : List (Entry Sent)) (at : Id) (deadline : ℕ) : Type 0 where
  pub entry : Entry Sent
  pub others : List (Entry Sent)
  pub whole : entries ≡ entry ∷ others
  pub at_is : at ≡ entry.id
  pub deadline_is : deadline ≡ entry.deadline

abbrev told : Entry Sent → Id × ℕ
told it = (it.id, it.deadline)

pub leads : (entries : List (Entry Sent)) (at : Id) (deadline : ℕ) → Some (at, deadline) ≡ option_map told (slice_get entries 0)
    → Leads entries at deadline
leads [] at deadline e = absurd cc
leads (x ∷ others) at deadline e =
    let same : (at, deadline) ≡ told x = cc in
    record {
      entry = x;
      others = others;
      whole = refl;
      at_is = ap (λ (it : Id × ℕ). it.0) same;
      deadline_is = ap (λ (it : Id × ℕ). it.1) same;
    }

-- the first is found by its id
pub leader-found : (entries : List (Entry Sent)) (at : Id) (deadline : ℕ) → All (λ it. entry_of it.id entries ≡ Some it) entries
    → (it : Leads entries at deadline) → entry_of at entries ≡ Some it.entry
leader-found entries at deadline found it =
    let found' = rw it.whole at found in
    rw (it.at_is, it.whole) (found' 0 it.entry (omega arith))

pub same-first : (entries : List (Entry Sent)) (a b : Entry Sent) (rest others : List (Entry Sent))
    → entries ≡ a ∷ rest → entries ≡ b ∷ others
    → (a ≡ b) × (rest ≡ others)
same-first entries a b rest others one other = let both : a ∷ rest ≡ b ∷ others = sym one ∙ other in (cc, cc)

pub not-more : (sends limit : ℕ) (is : Bool) → (IsTrue is → sends < limit) × (sends < limit → IsTrue is) → is ≡ false → limit ≤ sends
not-more sends limit is it fails = search rules

still-some : (found : Option (Entry Sent)) → IsSome found → IsSome (option_map ticket_in found)
still-some None it = it
still-some (Some entry) it = it

pub free : (list : Pending Sent) (id : ℕ) → find (is_of id) list.entries ≡ None → tickets.ticket_of id (map ticket_in list.entries) ≡ None
free list id none = find-map ticket_in (has_id id) list.entries ∙ ap (option_map ticket_in) none

pub taken : (list : Pending Sent) (id : ℕ) (entry : Entry Sent) → find (is_of id) list.entries ≡ Some entry
    → tickets.ticket_of id (map ticket_in list.entries) ≡ Some (ticket_in entry)
taken list id entry found = find-map ticket_in (has_id id) list.entries ∙ ap (option_map ticket_in) found

-- an ask is refused for the same reason, seen as tickets
pub refused-is : (schedule : Schedule) (list : Pending Sent) (id : ℕ) (refusal : AskRefusal) → CannotOpen list id refusal
    → Refuses (asking_of schedule list) id refusal
refused-is schedule list id IdTaken it = rw (find-map ticket_in (has_id id) list.entries) (still-some (find (is_of id) list.entries) it)
refused-is schedule list id Full it = (free list id it.0, (rw (length-map list.entries ticket_in) it.1))
refused-is schedule list id Spent it = (free list id it.0, (rw (length-map list.entries ticket_in) it.1), it.2)
refused-is schedule list id Memory it = (free list id it.0, (rw (length-map list.entries ticket_in) it.1), it.2)

-- a question more, seen as tickets
pub asked-is : (schedule : Schedule) (list new : Pending Sent) (at : Id) (sent : Sent) (deadline : ℕ)
    → new ≡ record list { entries = placed (record { id = at; deadline = deadline; item = sent }) list.entries; serial = list.serial + 1 }
    → asking_of schedule new ≡ record (asking_of schedule list) {
      tickets = waiting_too (record { sent = sent; deadline = deadline }) (map ticket_in list.entries);
      serial = list.serial + 1;
    }
asked-is schedule list new at sent deadline is =
    ap (asking_of schedule) is ∙ (rw (mapped-placed (record { id = at; deadline = deadline; item = sent }) list.entries) refl)

pub none-told : {A : Type 0} (found : Option A) (P : Type 0) (Q : A → Type 0) → MatchOption found P Q → false ≡ is_some found → P
none-told None P Q it e = it
none-told (Some x) P Q it e = absurd cc

-- whether a place was found for an id says whether a ticket is open under it
pub open-told : {A : Type 0} (list : Pending Sent) (id : ℕ) (at : Option A) (Q : A → Type 0) (found : (it : A) → Q it
    → (entry : Entry Sent) × (find (is_of id) list.entries ≡ Some entry))
    → MatchOption at (find (is_of id) list.entries ≡ None) Q
    → (IsTrue (is_some at) → IsSome (tickets.ticket_of id (map ticket_in list.entries)))
    × (IsSome (tickets.ticket_of id (map ticket_in list.entries)) → IsTrue (is_some at))
open-told list id None Q found it =
    ((λ yes. absurd cc), (λ some. absurd (let some' = rw (find-map ticket_in (has_id id) list.entries, it) at some in cc)))
open-told list id (Some at) Q found it =
    let entry = found at it in
    ((λ yes. rw (find-map ticket_in (has_id id) list.entries, entry.1) refl), (λ some. refl))
