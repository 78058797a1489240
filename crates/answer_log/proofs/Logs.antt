-- What stands in a log, and what follows when it grows.
use Rattle.std.proofs.Common.{◌≡◌, ◌≢◌, ℕ, ◌<◌, ◌⊎◌, inl, inr, true, List, [], ◌∷◌, ◌++◌, refl, ap, sym, ◌∙◌, subst, append_assoc, arith}
use mathlib.Core.List.{IsPrefix}
use Rattle.logbook.specs.Pages.{Cell, cell}
use Rattle.answer_log.specs.declared.store.Store.{Store}
use Rattle.answer_log.specs.declared.event.Event.{Event}
use Rattle.answer_log.specs.declared.event.Event.TheVariants.{Asks, Named, Opened, Placed}
use Rattle.answer_log.specs.Logs.{seat_of, groups_in, seats_in, history, top_from, Linked, In, Unplaced, Once}

pub history-append : (xs ys : List Event) → history (xs ++ ys) ≡ history xs ++ history ys
history-append [] ys = refl
history-append (Opened t g ∷ xs) ys = history-append xs ys
history-append (Asks s t ∷ xs) ys = history-append xs ys
history-append (Named n x l ∷ xs) ys = history-append xs ys
history-append (Placed n x l ∷ xs) ys = ap (λ w. x ∷ w) (history-append xs ys)

-- a log goes on with the seats that it was opened for
pub seats-append : (xs ys : List Event) → 0 < seats_in xs → seats_in (xs ++ ys) ≡ seats_in xs
seats-append [] ys some = absurd (omega arith)
seats-append (e ∷ xs) ys some = refl

-- a log has a first event
abbrev pub Begun : List Event → Type 0
Begun [] = ⊥
Begun (first ∷ log) = Unit {0}

pub begun-in : (e : Event) (log : List Event) → In e log → Begun log
begun-in e [] i = i
begun-in e (first ∷ log) i = tt

pub begun-seats : (log : List Event) → 0 < seats_in log → Begun log
begun-seats [] some = absurd (omega arith)
begun-seats (first ∷ log) some = tt

pub begun-groups : (log : List Event) → 0 < groups_in log → Begun log
begun-groups [] some = absurd (omega arith)
begun-groups (first ∷ log) some = tt

-- a log goes on with the groups that it was opened with
pub groups-append : (xs ys : List Event) → Begun xs → groups_in (xs ++ ys) ≡ groups_in xs
groups-append [] ys begun = absurd begun
groups-append (e ∷ xs) ys begun = refl

pub groups-prefix : (old new : List Event) → IsPrefix old new → Begun old → groups_in new ≡ groups_in old
groups-prefix old new p begun = ap groups_in (sym p.1) ∙ groups-append old p.0 begun

pub seat-append : (s : ℕ) (xs ys : List Event) → s < seats_in xs → s < seats_in (xs ++ ys)
seat-append s xs ys low = let same = seats-append xs ys (omega arith) in omega arith

pub seat-prefix : (s : ℕ) (old new : List Event) → IsPrefix old new → s < seats_in old → s < seats_in new
seat-prefix s old new p low = let S : List Event → Type 0 = λ log. s < seats_in log in subst S p.1 (seat-append s old p.0 low)

pub top-append : (p : ℕ) (xs ys : List Event) → top_from p (xs ++ ys) ≡ top_from (top_from p xs) ys
top-append p [] ys = refl
top-append p (Opened t g ∷ xs) ys = top-append p xs ys
top-append p (Asks s t ∷ xs) ys = top-append p xs ys
top-append p (Named n x l ∷ xs) ys = top-append p xs ys
top-append p (Placed n x l ∷ xs) ys = top-append n xs ys

pub linked-right : (groups : ℕ) (cs : List Cell) (p : ℕ) (xs ys : List Event) → Linked groups cs p (xs ++ ys)
    → Linked groups cs (top_from p xs) ys
linked-right groups cs p [] ys h = h
linked-right groups cs p (Opened t g ∷ xs) ys h = linked-right groups cs p xs ys h
linked-right groups cs p (Asks s t ∷ xs) ys h = linked-right groups cs p xs ys h
linked-right groups cs p (Named n x l ∷ xs) ys h = linked-right groups cs p xs ys h
linked-right groups cs p (Placed n x l ∷ xs) ys h = linked-right groups cs n xs ys h.2

pub linked-append : (groups : ℕ) (cs : List Cell) (p : ℕ) (xs ys : List Event) → Linked groups cs p xs
    → Linked groups cs (top_from p xs) ys → Linked groups cs p (xs ++ ys)
linked-append groups cs p [] ys h r = r
linked-append groups cs p (Opened t g ∷ xs) ys h r = linked-append groups cs p xs ys h r
linked-append groups cs p (Asks s t ∷ xs) ys h r = linked-append groups cs p xs ys h r
linked-append groups cs p (Named n x l ∷ xs) ys h r = linked-append groups cs p xs ys h r
linked-append groups cs p (Placed n x l ∷ xs) ys h r = (h.0, h.1, linked-append groups cs n xs ys h.2 r)

-- what is at home stays so
abbrev pub Keeps : ℕ → List Cell → List Cell → Type 0
Keeps groups cs cs' = (l v : ℕ) → groups < l → cell cs l ≡ (v, true) → cell cs' l ≡ (v, true)

pub linked-map : (groups : ℕ) (cs cs' : List Cell) (p : ℕ) (xs : List Event) → Keeps groups cs cs'
    → Linked groups cs p xs → Linked groups cs' p xs
linked-map groups cs cs' p [] k h = tt
linked-map groups cs cs' p (Opened t g ∷ xs) k h = linked-map groups cs cs' p xs k h
linked-map groups cs cs' p (Asks s t ∷ xs) k h = linked-map groups cs cs' p xs k h
linked-map groups cs cs' p (Named n x l ∷ xs) k h = linked-map groups cs cs' p xs k h
linked-map groups cs cs' p (Placed n x l ∷ xs) k h = (h.0, k l p h.0 h.1, linked-map groups cs cs' n xs k h.2)

-- no event is of the seat
abbrev pub Quiet : ℕ → List Event → Type 0
Quiet seat [] = Unit {0}
Quiet seat (event ∷ log) = (seat_of event ≢ seat) × Quiet seat log

-- no event of the seat is in a log that is quiet
pub quiet-in : (s : ℕ) (xs : List Event) (e : Event) → Quiet s xs → In e xs → seat_of e ≢ s
quiet-in s [] e h i = absurd i
quiet-in s (x ∷ xs) e h i =
    elim i [ inl p ↦ subst (λ (y : Event). seat_of y ≢ s) p h.0 | inr j ↦ quiet-in s xs e h.1 j ]

pub in-left : (e : Event) (xs ys : List Event) → In e xs → In e (xs ++ ys)
in-left e [] ys i = absurd i
in-left e (x ∷ xs) ys i = elim i [ inl p ↦ inl p | inr j ↦ inr (in-left e xs ys j) ]

in-right : (e : Event) (xs ys : List Event) → In e ys → In e (xs ++ ys)
in-right e [] ys i = i
in-right e (x ∷ xs) ys i = inr (in-right e xs ys i)

pub in-here : (e : Event) (xs ys : List Event) → In e (xs ++ e ∷ ys)
in-here e xs ys = in-right e xs (e ∷ ys) (inl refl)

pub in-cases : (e : Event) (xs ys : List Event) → In e (xs ++ ys) → In e xs ⊎ In e ys
in-cases e [] ys i = inr i
in-cases e (x ∷ xs) ys i =
    elim i [ inl p ↦ inl (inl p) | inr j ↦ elim (in-cases e xs ys j) [ inl a ↦ inl (inr a) | inr b ↦ inr b ] ]

abbrev pub prefix_trans : {A : Type 0} (xs ys zs : List A) → IsPrefix xs ys → IsPrefix ys zs → IsPrefix xs zs
prefix_trans xs ys zs p q = (p.0 ++ q.0, sym (append_assoc xs p.0 q.0) ∙ (ap (λ w. w ++ q.0) p.1 ∙ q.1))

pub unplaced-right : (n : ℕ) (xs ys : List Event) → Unplaced n (xs ++ ys) → Unplaced n ys
unplaced-right n [] ys h = h
unplaced-right n (Opened t g ∷ xs) ys h = unplaced-right n xs ys h
unplaced-right n (Asks s t ∷ xs) ys h = unplaced-right n xs ys h
unplaced-right n (Named m x l ∷ xs) ys h = unplaced-right n xs ys h
unplaced-right n (Placed m x l ∷ xs) ys h = unplaced-right n xs ys h.1

unplaced-append : (n : ℕ) (xs ys : List Event) → Unplaced n xs → Unplaced n ys → Unplaced n (xs ++ ys)
unplaced-append n [] ys h r = r
unplaced-append n (Opened t g ∷ xs) ys h r = unplaced-append n xs ys h r
unplaced-append n (Asks s t ∷ xs) ys h r = unplaced-append n xs ys h r
unplaced-append n (Named m x l ∷ xs) ys h r = unplaced-append n xs ys h r
unplaced-append n (Placed m x l ∷ xs) ys h r = (h.0, unplaced-append n xs ys h.1 r)

pub unplaced-of : (n : ℕ) (xs : List Event) → ((x : Store) (l : ℕ) → In (Placed n x l) xs → ⊥) → Unplaced n xs
unplaced-of n [] h = tt
unplaced-of n (Opened t g ∷ xs) h = unplaced-of n xs (λ x l i. h x l (inr i))
unplaced-of n (Asks s t ∷ xs) h = unplaced-of n xs (λ x l i. h x l (inr i))
unplaced-of n (Named m y k ∷ xs) h = unplaced-of n xs (λ x l i. h x l (inr i))
unplaced-of n (Placed m y k ∷ xs) h = (
  λ p. h y k (inl (ap (λ (j : ℕ). Placed j y k) p)),
  unplaced-of n xs (λ x l i. h x l (inr i)),
)

pub once-right : (xs ys : List Event) → Once (xs ++ ys) → Once ys
once-right [] ys h = h
once-right (Opened t g ∷ xs) ys h = once-right xs ys h
once-right (Asks s t ∷ xs) ys h = once-right xs ys h
once-right (Named m x l ∷ xs) ys h = once-right xs ys h
once-right (Placed m x l ∷ xs) ys h = once-right xs ys h.1

pub once-named : (xs : List Event) (n : ℕ) (x : Store) (l : ℕ) → Once xs → Once (xs ++ Named n x l ∷ [])
once-named [] n x l h = tt
once-named (Opened t g ∷ xs) n x l h = once-named xs n x l h
once-named (Asks s t ∷ xs) n x l h = once-named xs n x l h
once-named (Named m y k ∷ xs) n x l h = once-named xs n x l h
once-named (Placed m y k ∷ xs) n x l h = (unplaced-append m xs (Named n x l ∷ []) h.0 tt, once-named xs n x l h.1)

pub once-placed : (xs : List Event) (n : ℕ) (x : Store) (l : ℕ) → Unplaced n xs → Once xs → Once (xs ++ Placed n x l ∷ [])
once-placed [] n x l u h = (tt, tt)
once-placed (Opened t g ∷ xs) n x l u h = once-placed xs n x l u h
once-placed (Asks s t ∷ xs) n x l u h = once-placed xs n x l u h
once-placed (Named m y k ∷ xs) n x l u h = once-placed xs n x l u h
once-placed (Placed m y k ∷ xs) n x l u h = (
  unplaced-append m xs (Placed n x l ∷ []) h.0 ((λ p. u.0 (sym p)), tt),
  once-placed xs n x l u.1 h.1,
)

pub in-linked : (groups : ℕ) (cs : List Cell) (p : ℕ) (xs : List Event) (n : ℕ) (x : Store) (l : ℕ)
    → Linked groups cs p xs → In (Placed n x l) xs → (cell cs l).1 ≡ true
in-linked groups cs p [] n x l h i = absurd i
in-linked groups cs p (Opened r g ∷ xs) n x l h i = elim i [ inl q ↦ absurd (cc (q)) | inr j ↦ in-linked groups cs p xs n x l h j ]
in-linked groups cs p (Asks s r ∷ xs) n x l h i = elim i [ inl q ↦ absurd (cc (q)) | inr j ↦ in-linked groups cs p xs n x l h j ]
in-linked groups cs p (Named m y k ∷ xs) n x l h i = elim i [ inl q ↦ absurd (cc (q)) | inr j ↦ in-linked groups cs p xs n x l h j ]
in-linked groups cs p (Placed m y k ∷ xs) n x l h i =
    elim i [
      | inl q ↦ (let e : k ≡ l = cc (q) in ap (λ j. (cell cs j).1) (sym e) ∙ ap (λ (c : Cell). c.1) h.1)
      | inr j ↦ in-linked groups cs m xs n x l h.2 j
    ]
