-- Cells that lie apart, cut at one of them.
use Rattle.std.proofs.Common.{◌≡◌, Bool, true, false, true≢false, cond, List, [], ◌∷◌, ◌++◌, Some, None, refl, sym, ap, ◌∙◌, subst, append_assoc}
use Rattle.std.proofs.lemmas.List.{map-append}
use denote.RawPtr.{Ptr}
use Rattle.pending_list.specs.Cells.{Cell, cell, same_address, value_at, set_at, without, put_behind, put_after}
use Rattle.pending_list.specs.Links.{changed_at, addresses, has, AreDistinct, last_address}
use Rattle.pending_list.proofs.Memory.{same_address_refl, same_address_eq}

alike : (x y : Bool) → (x ≡ true → y ≡ true) → (y ≡ true → x ≡ true) → x ≡ y
alike true y f g = sym (f refl)
alike false true f g = g refl
alike false false f g = refl

pub same_address_symm : (p q : Ptr) → same_address p q ≡ same_address q p
same_address_symm p q = alike (same_address p q) (same_address q p)
    (λ e. subst (λ r. same_address r p ≡ true) (same_address_eq p q e) (same_address_refl p))
    (λ e. subst (λ r. same_address r q ≡ true) (same_address_eq q p e) (same_address_refl q))

neither : (b h : Bool) → cond b true h ≡ false → (b ≡ false) × (h ≡ false)
neither true h e = absurd (true≢false e)
neither false h e = (refl, e)

none : (b h : Bool) → b ≡ false → h ≡ false → cond b true h ≡ false
none true h e f = absurd (true≢false e)
none false h e f = f

pub has-cons : (p q : Ptr) (ps : List Ptr) → has p (q ∷ ps) ≡ false → (same_address q p ≡ false) × (has p ps ≡ false)
unfolding has
has-cons p q ps e = neither (same_address q p) (has p ps) e

cons-has : (p q : Ptr) (ps : List Ptr) → same_address q p ≡ false → has p ps ≡ false → has p (q ∷ ps) ≡ false
unfolding has
cons-has p q ps e f = none (same_address q p) (has p ps) e f

pub has-parts : (p : Ptr) (xs ys : List Ptr) → has p (xs ++ ys) ≡ false → (has p xs ≡ false) × (has p ys ≡ false)
unfolding has
has-parts p [] ys e = (refl, e)
has-parts p (a ∷ xs) ys e =
    let here = has-cons p a (xs ++ ys) e in let rest = has-parts p xs ys here.1 in (cons-has p a xs here.0 rest.0, rest.1)

pub parts-has : (p : Ptr) (xs ys : List Ptr) → has p xs ≡ false → has p ys ≡ false → has p (xs ++ ys) ≡ false
unfolding has
parts-has p [] ys e f = f
parts-has p (a ∷ xs) ys e f = let here = has-cons p a xs e in cons-has p a (xs ++ ys) here.0 (parts-has p xs ys here.1 f)

-- the pointers but one
pub record Apart (xs : List Ptr) (p : Ptr) (ys : List Ptr) : Type 0 where
  pub rest : AreDistinct (xs ++ ys)
  pub before : has p xs ≡ false
  pub behind : has p ys ≡ false

pub apart-without : (xs : List Ptr) (p : Ptr) (ys : List Ptr) → AreDistinct (xs ++ p ∷ ys) → Apart xs p ys
unfolding has AreDistinct
apart-without [] p ys e = record { rest = e.1; before = refl; behind = e.0 }
apart-without (a ∷ xs) p ys e =
    let on = apart-without xs p ys e.1 in
    let parts = has-parts a xs (p ∷ ys) e.0 in
    let there = has-cons a p ys parts.1 in
    record {
      rest = (parts-has a xs ys parts.0 there.1, on.rest);
      before = cons-has p a xs (same_address_symm a p ∙ there.0) on.before;
      behind = on.behind;
    }

pub apart-with : (xs : List Ptr) (p : Ptr) (ys : List Ptr) → has p (xs ++ ys) ≡ false → AreDistinct (xs ++ ys) → AreDistinct (xs ++ p ∷ ys)
unfolding AreDistinct
apart-with [] p ys e d = (e, d)
apart-with (a ∷ xs) p ys e d =
    let here = has-cons p a (xs ++ ys) e in
    let parts = has-parts a xs ys d.0 in
    (parts-has a xs (p ∷ ys) parts.0 (cons-has a p ys (same_address_symm p a ∙ here.0) parts.1), apart-with xs p ys here.1 d.1)

-- a list is empty, or has a last element
pub data Ends (X : Type 0) (xs : List X) : Type 0 where
  empty : xs ≡ [] → Ends X xs
  ends : (front : List X) (last : X) → xs ≡ front ++ last ∷ [] → Ends X xs

pub ends_of : {X : Type 0} (xs : List X) → Ends X xs
ends_of [] = empty refl
ends_of (x ∷ xs) = elim (ends_of xs) [
  | empty e ↦ ends [] x (ap (λ l. x ∷ l) e)
  | ends front last e ↦ ends (x ∷ front) last (ap (λ l. x ∷ l) e)
]

module _ {N : Type 0} where
  pub value-none : (p : Ptr) (cs : List (Cell N)) → has p (addresses cs) ≡ false → value_at p cs ≡ None
  unfolding value_at has
  value-none p [] e = refl
  value-none p (c ∷ cs) e = let here = has-cons p c.at (addresses cs) e in rw here.0 (value-none p cs here.1)

  none-step : (p : Ptr) (c : Cell N) (cs : List (Cell N)) (y : Bool) → same_address c.at p ≡ y
      → cond y (Some c.value) (value_at p cs) ≡ None
      → (value_at p cs ≡ None → has p (addresses cs) ≡ false) → has p (addresses (c ∷ cs)) ≡ false
  none-step p c cs true e is rest = absurd cc
  none-step p c cs false e is rest = cons-has p c.at (addresses cs) e (rest is)

  pub none-value : (p : Ptr) (cs : List (Cell N)) → value_at p cs ≡ None → has p (addresses cs) ≡ false
  unfolding value_at has
  none-value p [] e = refl
  none-value p (c ∷ cs) e = none-step p c cs (same_address c.at p) refl e (none-value p cs)

  -- the cell at a place, between those before it and those behind it
  pub record Found (p : Ptr) (x : N) (cs : List (Cell N)) : Type 0 where
    pub front : List (Cell N)
    pub back : List (Cell N)
    pub whole : cs ≡ front ++ cell p x ∷ back
    pub before : has p (addresses front) ≡ false

  found-step : (p : Ptr) (x : N) (c : Cell N) (cs : List (Cell N)) (y : Bool) → same_address c.at p ≡ y
      → cond y (Some c.value) (value_at p cs) ≡ Some x
      → (value_at p cs ≡ Some x → Found p x cs) → Found p x (c ∷ cs)
  unfolding has
  found-step p x c cs true e is rest =
      let at : c.at ≡ p = same_address_eq c.at p e in let v : c.value ≡ x = cc in
      record { front = []; back = cs; whole = λ i. cell (at i) (v i) ∷ cs; before = refl }
  found-step p x c cs false e is rest =
      let on = rest is in
      record {
        front = c ∷ on.front;
        back = on.back;
        whole = ap (λ l. c ∷ l) on.whole;
        before =
            cons-has p c.at (addresses on.front) e on.before;
      }

  pub found : (p : Ptr) (x : N) (cs : List (Cell N)) → value_at p cs ≡ Some x → Found p x cs
  unfolding value_at
  found p x [] is = absurd cc
  found p x (c ∷ cs) is = found-step p x c cs (same_address c.at p) refl is (found p x cs)

  module _ (p : Ptr) (x : N) (back : List (Cell N)) where
    pub value-at : (front : List (Cell N)) → has p (addresses front) ≡ false → value_at p (front ++ cell p x ∷ back) ≡ Some x
    unfolding value_at
    value-at [] e = rw (same_address_refl p) refl
    value-at (c ∷ front) e = let here = has-cons p c.at (addresses front) e in rw here.0 (value-at front here.1)

    pub put-at : (d : Cell N) (front : List (Cell N)) → has p (addresses front) ≡ false
        → put_behind p d (front ++ cell p x ∷ back) ≡ front ++ cell p x ∷ d ∷ back
    unfolding put_behind
    put-at d [] e = rw (same_address_refl p) refl
    put-at d (c ∷ front) e = let here = has-cons p c.at (addresses front) e in rw here.0 (ap (λ l. c ∷ l) (put-at d front here.1))

    pub without-at : (front : List (Cell N)) → has p (addresses front) ≡ false → without p (front ++ cell p x ∷ back) ≡ front ++ back
    unfolding without
    without-at [] e = rw (same_address_refl p) refl
    without-at (c ∷ front) e = let here = has-cons p c.at (addresses front) e in rw here.0 (ap (λ l. c ∷ l) (without-at front here.1))

    pub changed-at : (f : N → N) (front : List (Cell N)) → has p (addresses front) ≡ false
        → changed_at p f (front ++ cell p x ∷ back) ≡ front ++ cell p (f x) ∷ back
    unfolding changed_at
    changed-at f [] e = rw (same_address_refl p) refl
    changed-at f (c ∷ front) e = let here = has-cons p c.at (addresses front) e in rw here.0 (ap (λ l. c ∷ l) (changed-at f front here.1))

    pub set-at : (w : N) (front : List (Cell N)) → has p (addresses front) ≡ false
        → set_at p w (front ++ cell p x ∷ back) ≡ front ++ cell p w ∷ back
    unfolding set_at
    set-at w [] e = rw (same_address_refl p) refl
    set-at w (c ∷ front) e = let here = has-cons p c.at (addresses front) e in rw here.0 (ap (λ l. c ∷ l) (set-at w front here.1))

  -- a value that is changed is one that is set
  pub set-changed : (p : Ptr) (x : N) (f : N → N) (cs : List (Cell N)) → value_at p cs ≡ Some x → set_at p (f x) cs ≡ changed_at p f cs
  set-changed p x f cs is =
      let on = found p x cs is in
      ap (set_at p (f x)) on.whole ∙ set-at p x on.back (f x) on.front on.before
      ∙ sym (ap (changed_at p f) on.whole ∙ changed-at p x on.back f on.front on.before)

  pub last-at : (front : List (Cell N)) (c : Cell N) → last_address (front ++ c ∷ []) ≡ Some c.at
  unfolding last_address
  last-at [] c = refl
  last-at (d ∷ []) c = refl
  last-at (d ∷ e ∷ front) c = last-at (e ∷ front) c

  pub addresses-parts : (xs ys : List (Cell N)) → addresses (xs ++ ys) ≡ addresses xs ++ addresses ys
  addresses-parts xs ys = map-append (λ c. c.at) xs ys

  -- the place of the last of those in front
  pub at-last : (front : List (Cell N)) (c : Cell N) (back : List (Cell N)) → AreDistinct (addresses ((front ++ c ∷ []) ++ back))
      → has c.at (addresses front) ≡ false
  at-last front c back d =
      (apart-without (addresses front) c.at (addresses back)
      (subst AreDistinct (ap addresses (append_assoc front (c ∷ []) back) ∙ addresses-parts front (c ∷ back)) d)).before

  pub put-is : (front back : List (Cell N)) (d : Cell N) → AreDistinct (addresses (front ++ back))
      → put_after (last_address front) d (front ++ back) ≡ front ++ d ∷ back
  unfolding last_address
  put-is front back d apart = elim (ends_of front) [
    | empty e ↦ (λ i. put_after (last_address (e i)) d (e i ++ back)) ∙ sym (λ i. e i ++ d ∷ back)
    | ends f c e ↦
        (λ i. put_after (last_address (e i)) d (e i ++ back))
        ∙ (λ i. put_after (last-at f c i) d (append_assoc f (c ∷ []) back i))
        ∙ put-at c.at c.value back d f (at-last f c back (subst (λ l. AreDistinct (addresses (l ++ back))) e apart))
        ∙ sym ((λ i. e i ++ d ∷ back) ∙ append_assoc f (c ∷ []) (d ∷ back))
  ]
