-- Nodes stay linked as one is put among them or taken out.
use Rattle.std.proofs.Common.{◌≡◌, Bool, true, false, cond, List, [], ◌∷◌, ◌++◌, Option, Some, None, IsSome, refl, sym, ap, ◌∙◌, subst, append_assoc}
use Rattle.std.specs.Option.{option_map}
use Rattle.std.proofs.lemmas.List.{map-append}
use denote.RawPtr.{Ptr}
use Rattle.pending_list.specs.declared.node.Node.{Node}
use Rattle.pending_list.specs.Cells.{Cell, cell, same_address, value_at, set_at, without, put_after, address_of}
use Rattle.pending_list.specs.Links.{StandsBehind, StandsBefore, first_address, Neighbour, IsThere, first_after, next_in, next_set, next_first, prev_set, prev_last, entries_of, link_to, head_or, last_or, AreLinked, addresses, has, AreDistinct, last_address}
use Rattle.pending_list.proofs.Memory.{same_address_refl, some_of}
use Rattle.pending_list.proofs.Distinct.{empty, ends, ends_of, apart-without, apart-with, Found, found, without-at, changed-at, set-at, at-last, addresses-parts, put-is, none-value}

module _ {E : Type 0} where
  abbrev next_to : Neighbour E → (Cell (Node E)) → (Cell (Node E))
  next_to n c = cell c.at (record c.value { next = n })

  abbrev prev_to : Neighbour E → (Cell (Node E)) → (Cell (Node E))
  prev_to n c = cell c.at (record c.value { prev = n })

  -- the last node leads on to n
  abbrev pub renext : Neighbour E → List (Cell (Node E)) → List (Cell (Node E))
  renext n [] = []
  renext n (c ∷ []) = next_to n c ∷ []
  renext n (c ∷ d ∷ cs) = c ∷ renext n (d ∷ cs)

  -- the first node leads back to n
  abbrev pub reprev : Neighbour E → List (Cell (Node E)) → List (Cell (Node E))
  reprev n [] = []
  reprev n (c ∷ cs) = prev_to n c ∷ cs

  -- ---- heads and lasts
  pub head-parts : (after : Neighbour E) (xs ys : List (Cell (Node E))) → head_or after (xs ++ ys) ≡ head_or (head_or after ys) xs
  unfolding head_or
  head-parts after [] ys = refl
  head-parts after (x ∷ xs) ys = refl

  pub last-parts : (before : Neighbour E) (xs ys : List (Cell (Node E))) → last_or before (xs ++ ys) ≡ last_or (last_or before xs) ys
  unfolding last_or
  last-parts before [] ys = refl
  last-parts before (x ∷ xs) ys = last-parts (Some (link_to x)) xs ys

  pub last-place : (cs : List (Cell (Node E))) → address_of (last_or None cs) ≡ last_address cs
  unfolding last_or last_address
  last-place [] = refl
  last-place (c ∷ []) = refl
  last-place (c ∷ d ∷ cs) = last-place (d ∷ cs)

  head-renext : (after n : Neighbour E) (c : (Cell (Node E))) (cs : List (Cell (Node E)))
      → head_or after (renext n (c ∷ cs)) ≡ Some (link_to c)
  unfolding head_or
  head-renext after n c [] = refl
  head-renext after n c (d ∷ cs) = refl

  pub last-renext : (before n : Neighbour E) (cs : List (Cell (Node E))) → last_or before (renext n cs) ≡ last_or before cs
  unfolding last_or
  last-renext before n [] = refl
  last-renext before n (c ∷ []) = refl
  last-renext before n (c ∷ d ∷ cs) = last-renext (Some (link_to c)) n (d ∷ cs)

  pub head-reprev : (after n : Neighbour E) (cs : List (Cell (Node E))) → head_or after (reprev n cs) ≡ head_or after cs
  unfolding head_or
  head-reprev after n [] = refl
  head-reprev after n (c ∷ cs) = refl

  -- ---- strings
  pub linked-parts : (before : Neighbour E) (xs ys : List (Cell (Node E))) (after : Neighbour E) → AreLinked before (xs ++ ys) after
      → AreLinked before xs (head_or after ys) × AreLinked (last_or before xs) ys after
  unfolding AreLinked last_or
  linked-parts before [] ys after s = (tt, s)
  linked-parts before (x ∷ xs) ys after s =
      let on = linked-parts (Some (link_to x)) xs ys after s.2 in ((s.0, s.1 ∙ head-parts after xs ys, on.0), on.1)

  pub parts-linked : (before : Neighbour E) (xs ys : List (Cell (Node E))) (after : Neighbour E) → AreLinked before xs (head_or after ys)
      → AreLinked (last_or before xs) ys after
      → AreLinked before (xs ++ ys) after
  unfolding AreLinked last_or
  parts-linked before [] ys after s t = t
  parts-linked before (x ∷ xs) ys after s t = (s.0, s.1 ∙ sym (head-parts after xs ys), parts-linked (Some (link_to x)) xs ys after s.2 t)

  pub renext-linked : (before n : Neighbour E) (cs : List (Cell (Node E))) (after : Neighbour E) → AreLinked before cs after
      → AreLinked before (renext n cs) n
  unfolding AreLinked head_or
  renext-linked before n [] after s = tt
  renext-linked before n (c ∷ []) after s = (s.0, refl, tt)
  renext-linked before n (c ∷ d ∷ cs) after s =
      (s.0, s.1 ∙ sym (head-renext n n d cs), renext-linked (Some (link_to c)) n (d ∷ cs) after s.2)

  pub reprev-linked : (before n : Neighbour E) (cs : List (Cell (Node E))) (after : Neighbour E) → AreLinked before cs after
      → AreLinked n (reprev n cs) after
  unfolding AreLinked
  reprev-linked before n [] after s = tt
  reprev-linked before n (c ∷ cs) after s = (refl, s.1, s.2)

  -- ---- addresses and entries
  pub addresses-renext : (n : Neighbour E) (cs : List (Cell (Node E))) → addresses (renext n cs) ≡ addresses cs
  addresses-renext n [] = refl
  addresses-renext n (c ∷ []) = refl
  addresses-renext n (c ∷ d ∷ cs) = ap (λ l. c.at ∷ l) (addresses-renext n (d ∷ cs))

  pub addresses-reprev : (n : Neighbour E) (cs : List (Cell (Node E))) → addresses (reprev n cs) ≡ addresses cs
  addresses-reprev n [] = refl
  addresses-reprev n (c ∷ cs) = refl

  pub entries-renext : (n : Neighbour E) (cs : List (Cell (Node E))) → entries_of (renext n cs) ≡ entries_of cs
  entries-renext n [] = refl
  entries-renext n (c ∷ []) = refl
  entries-renext n (c ∷ d ∷ cs) = ap (λ l. cell c.at c.value.entry ∷ l) (entries-renext n (d ∷ cs))

  pub entries-reprev : (n : Neighbour E) (cs : List (Cell (Node E))) → entries_of (reprev n cs) ≡ entries_of cs
  entries-reprev n [] = refl
  entries-reprev n (c ∷ cs) = refl

  pub entries-parts : (xs ys : List (Cell (Node E))) → entries_of (xs ++ ys) ≡ entries_of xs ++ entries_of ys
  entries-parts xs ys = map-append (λ c. cell c.at c.value.entry) xs ys

  pub addresses-entries : (cs : List (Cell (Node E))) → addresses (entries_of cs) ≡ addresses cs
  addresses-entries [] = refl
  addresses-entries (c ∷ cs) = ap (λ l. c.at ∷ l) (addresses-entries cs)

  pub last-entries : (cs : List (Cell (Node E))) → last_address (entries_of cs) ≡ last_address cs
  unfolding last_address
  last-entries [] = refl
  last-entries (c ∷ []) = refl
  last-entries (c ∷ d ∷ cs) = last-entries (d ∷ cs)

  value-by : (y : Bool) (n : Node E) (o : Option (Node E)) (q : Option E) → q ≡ option_map (λ n. n.entry) o
      → cond y (Some n.entry) q ≡ option_map (λ n. n.entry) (cond y (Some n) o)
  value-by true n o q e = refl
  value-by false n o q e = e

  pub value-entries : (p : Ptr) (cs : List (Cell (Node E))) → value_at p (entries_of cs) ≡ option_map (λ n. n.entry) (value_at p cs)
  unfolding value_at
  value-entries p [] = refl
  value-entries p (c ∷ cs) = value-by (same_address c.at p) c.value (value_at p cs) (value_at p (entries_of cs)) (value-entries p cs)

  some-by : (o : Option (Node E)) → IsSome (option_map (λ n. n.entry) o) → IsSome o
  some-by (Some n) h = refl
  some-by None h = absurd cc

  pub there-entries : (p : Ptr) (cs : List (Cell (Node E))) → IsSome (value_at p (entries_of cs)) → IsSome (value_at p cs)
  there-entries p cs h = some-by (value_at p cs) (subst IsSome (value-entries p cs) h)

  -- ---- what the writes do
  renext-ends : (n : Neighbour E) (front : List (Cell (Node E))) (c : (Cell (Node E)))
      → renext n (front ++ c ∷ []) ≡ front ++ next_to n c ∷ []
  renext-ends n [] c = refl
  renext-ends n (d ∷ []) c = refl
  renext-ends n (d ∷ e ∷ front) c = ap (λ l. d ∷ l) (renext-ends n (e ∷ front) c)

  last-ends : (before : Neighbour E) (front : List (Cell (Node E))) (c : (Cell (Node E)))
      → last_or before (front ++ c ∷ []) ≡ Some (link_to c)
  unfolding last_or
  last-ends before [] c = refl
  last-ends before (d ∷ front) c = last-ends (Some (link_to d)) front c

  pub next-is : (n : Neighbour E) (front back : List (Cell (Node E))) → AreDistinct (addresses (front ++ back))
      → next_set (last_or None front) n (front ++ back) ≡ renext n front ++ back
  unfolding last_or
  next-is n front back apart = elim (ends_of front) [
    | empty e ↦ (λ i. next_set (last_or None (e i)) n (e i ++ back)) ∙ sym (λ i. renext n (e i) ++ back)
    | ends f c e ↦
        (λ i. next_set (last_or None (e i)) n (e i ++ back))
        ∙ (λ i. next_set (last-ends None f c i) n (append_assoc f (c ∷ []) back i))
        ∙ changed-at c.at c.value back (λ m. record m { next = n }) f
        (at-last f c back (subst (λ l. AreDistinct (addresses (l ++ back))) e apart))
        ∙ sym ((λ i. renext n (e i) ++ back) ∙ (λ i. renext-ends n f c i ++ back) ∙ append_assoc f (next_to n c ∷ []) back)
  ]

  pub prev-is : (n : Neighbour E) (front back : List (Cell (Node E))) → AreDistinct (addresses (front ++ back))
      → prev_set (head_or None back) n (front ++ back) ≡ front ++ reprev n back
  unfolding head_or
  prev-is n front [] apart = refl
  prev-is n front (c ∷ back) apart =
      changed-at c.at c.value back (λ m. record m { prev = n }) front
      (apart-without (addresses front) c.at (addresses back) (subst AreDistinct (addresses-parts front (c ∷ back)) apart)).before

  head-any : (after n : Neighbour E) (f : List (Cell (Node E))) (c : Cell (Node E)) → head_or after (f ++ c ∷ []) ≡ head_or n (f ++ c ∷ [])
  unfolding head_or
  head-any after n [] c = refl
  head-any after n (d ∷ f) c = refl

  head-same : (n : Neighbour E) (f : List (Cell (Node E))) (c : Cell (Node E)) (m : Neighbour E)
      → head_or n (f ++ next_to m c ∷ []) ≡ head_or n (f ++ c ∷ [])
  unfolding head_or
  head-same n [] c m = refl
  head-same n (d ∷ f) c m = refl

  pub next_first-is : (n : Neighbour E) (front : List (Cell (Node E))) (after : Neighbour E)
      → next_first (last_or None front) n (head_or after front) ≡ head_or n (renext n front)
  unfolding last_or head_or
  next_first-is n front after = elim (ends_of front) [
    | empty e ↦ (λ i. next_first (last_or None (e i)) n (head_or after (e i))) ∙ sym (λ i. head_or n (renext n (e i)))
    | ends f c e ↦
        (λ i. next_first (last_or None (e i)) n (head_or after (e i)))
        ∙ (λ i. next_first (last-ends None f c i) n (head_or after (f ++ c ∷ [])))
        ∙ head-any after n f c ∙ sym ((λ i. head_or n (renext n (e i))) ∙ (λ i. head_or n (renext-ends n f c i)) ∙ head-same n f c n)
  ]

  pub prev_last-is : (n : Neighbour E) (back : List (Cell (Node E))) (before : Neighbour E)
      → prev_last (head_or None back) n (last_or before back) ≡ last_or n (reprev n back)
  unfolding last_or head_or
  prev_last-is n [] before = refl
  prev_last-is n (c ∷ back) before = refl

  -- ---- where nodes are
  some-by-or : (y : Bool) (n : Node E) (o : Option (Node E)) → IsSome o → IsSome (cond y (Some n) o)
  some-by-or true n o h = refl
  some-by-or false n o h = h

  some-at : (xs : List (Cell (Node E))) (c : Cell (Node E)) (ys : List (Cell (Node E))) → IsSome (value_at c.at (xs ++ c ∷ ys))
  unfolding value_at
  some-at [] c ys = rw (same_address_refl c.at) refl
  some-at (x ∷ xs) c ys = some-by-or (same_address x.at c.at) x.value (value_at c.at (xs ++ c ∷ ys)) (some-at xs c ys)

  pub there-last : (front rest : List (Cell (Node E))) → IsThere (last_or None front) (front ++ rest)
  unfolding last_or
  there-last front rest = elim (ends_of front) [
    | empty e ↦ subst (λ l. IsThere (last_or None l) (l ++ rest)) (sym e) tt
    | ends f c e ↦
        subst (λ l. IsThere (last_or None l) (l ++ rest)) (sym e)
        (subst (λ l. IsThere l ((f ++ c ∷ []) ++ rest)) (sym (last-ends None f c))
        (subst (λ l. IsSome (value_at c.at l)) (sym (append_assoc f (c ∷ []) rest)) (some-at f c rest)))
  ]

  pub there-head : (rest back : List (Cell (Node E))) → IsThere (head_or None back) (rest ++ back)
  unfolding head_or
  there-head rest [] = tt
  there-head rest (c ∷ back) = some-at rest c back

  -- the nodes up to one, or none, and those behind
  pub record Where (cs : List (Cell (Node E))) (first after : Neighbour E) : Type 0 where
    pub front : List (Cell (Node E))
    pub back : List (Cell (Node E))
    pub whole : cs ≡ front ++ back
    pub is : after ≡ last_or None front
    pub next : first_after after first cs ≡ head_or None back

  pub where_of : (cs : List (Cell (Node E))) (first after : Neighbour E) → AreLinked None cs None → first ≡ head_or None cs
      → IsThere after cs → Where cs first after
  unfolding last_or AreLinked
  where_of cs first None s ef there = record { front = []; back = cs; whole = refl; is = refl; next = ef }
  where_of cs first (Some l) s ef there =
      let one = some_of (value_at l.at cs) there in
      let at = found l.at one.0 cs one.1 in
      let c : Cell (Node E) = cell l.at one.0 in
      let parts = linked-parts None at.front (c ∷ at.back) None (subst (λ l. AreLinked None l None) at.whole s) in
      record {
        front = at.front ++ c ∷ [];
        back = at.back;
        whole = at.whole ∙ sym (append_assoc at.front (c ∷ []) at.back);
        is = sym (last-ends None at.front c);
        next = ap (next_in first) one.1 ∙ parts.1.1;
      }

  -- what holds of a entries
  pub record IsLinkedList (cs : List (Cell (Node E))) (first last : Neighbour E) : Type 0 where
    pub linked : AreLinked None cs None
    pub first_is : first ≡ head_or None cs
    pub last_is : last ≡ last_or None cs
    pub apart : AreDistinct (addresses cs)

  apart-parts : (xs ys : List (Cell (Node E))) (us vs : List (Cell (Node E))) → addresses xs ≡ addresses us → addresses ys ≡ addresses vs
      → AreDistinct (addresses (us ++ vs)) → AreDistinct (addresses (xs ++ ys))
  apart-parts xs ys us vs e f d =
      subst AreDistinct (sym (addresses-parts xs ys ∙ (λ i. e i ++ f i))) (subst AreDistinct (addresses-parts us vs) d)

  -- a node is put between two, or at an end
  module _ (cs : List (Cell (Node E))) (first last after : Neighbour E) (it : IsLinkedList cs first last) (there : IsThere after cs) where
    abbrev pub at : Where cs first after
    at = where_of cs first after it.linked it.first_is there

    module _ (d : Cell (Node E)) (fresh : value_at d.at cs ≡ None) (back_to : d.value.prev ≡ after)
        (on_to : d.value.next ≡ first_after after first cs) where
      abbrev k : Neighbour E
      k = Some (link_to d)

      abbrev front : List (Cell (Node E))
      front = at.front

      abbrev back : List (Cell (Node E))
      back = at.back

      apart₀ : AreDistinct (addresses (front ++ back))
      apart₀ = subst (λ l. AreDistinct (addresses l)) at.whole it.apart

      fresh₀ : has d.at (addresses front ++ addresses back) ≡ false
      fresh₀ = subst (λ l. has d.at l ≡ false) (ap addresses at.whole ∙ addresses-parts front back) (none-value d.at cs fresh)

      apart₁ : AreDistinct (addresses (front ++ d ∷ back))
      apart₁ = subst AreDistinct (sym (addresses-parts front (d ∷ back)))
          (apart-with (addresses front) d.at (addresses back) fresh₀ (subst AreDistinct (addresses-parts front back) apart₀))

      pub put-cells : put_after (address_of after) d cs ≡ front ++ d ∷ back
      put-cells = (λ i. put_after (address_of (at.is i)) d (at.whole i)) ∙ ap (λ p. put_after p d (front ++ back)) (last-place front)
          ∙ put-is front back d apart₀

      pub there₁ : IsThere after (put_after (address_of after) d cs)
      there₁ = subst (λ l. IsThere after l) (sym put-cells)
          (subst (λ a. IsThere a (front ++ d ∷ back)) (sym at.is) (there-last front (d ∷ back)))

      pub next-cells : next_set after k (put_after (address_of after) d cs) ≡ renext k front ++ d ∷ back
      next-cells = (λ i. next_set (at.is i) k (put-cells i)) ∙ next-is k front (d ∷ back) apart₁

      rejoin : (xs : List (Cell (Node E))) → renext k front ++ d ∷ xs ≡ (renext k front ++ d ∷ []) ++ xs
      rejoin xs = sym (append_assoc (renext k front) (d ∷ []) xs)

      pub there₂ : IsThere (first_after after first cs) (next_set after k (put_after (address_of after) d cs))
      there₂ =
          subst (λ l. IsThere (first_after after first cs) l) (sym (next-cells ∙ rejoin back))
          (subst (λ a. IsThere a ((renext k front ++ d ∷ []) ++ back)) (sym at.next) (there-head (renext k front ++ d ∷ []) back))

      abbrev pub done : List (Cell (Node E))
      done = renext k front ++ d ∷ reprev k back

      apart₂ : AreDistinct (addresses ((renext k front ++ d ∷ []) ++ back))
      apart₂ = subst (λ l. AreDistinct (addresses l)) (rejoin back)
          (apart-parts (renext k front) (d ∷ back) front (d ∷ back) (addresses-renext k front) refl apart₁)

      pub done-cells : prev_set (first_after after first cs) k (next_set after k (put_after (address_of after) d cs)) ≡ done
      done-cells = (λ i. prev_set (at.next i) k ((next-cells ∙ rejoin back) i)) ∙ prev-is k (renext k front ++ d ∷ []) back apart₂
          ∙ sym (rejoin (reprev k back))

      links-on : AreLinked None done None
      unfolding AreLinked head_or last_or
      links-on =
          let parts = linked-parts None front back None (subst (λ l. AreLinked None l None) at.whole it.linked) in
          parts-linked None (renext k front) (d ∷ reprev k back) None (renext-linked None k front (head_or None back) parts.0) (
            back_to ∙ at.is ∙ sym (last-renext None k front),
            on_to ∙ at.next
                ∙ sym (head-reprev None k back),
            reprev-linked (last_or None front) k back None parts.1,
          )

      pub linked : IsLinkedList done (next_first after k first) (prev_last (first_after after first cs) k last)
      unfolding head_or last_or
      linked = record {
        linked = links-on;
        first_is =
            (λ i. next_first (at.is i) k ((it.first_is ∙ ap (head_or None) at.whole ∙ head-parts None front back) i))
            ∙ next_first-is k front (head_or None back) ∙ sym (head-parts None (renext k front) (d ∷ reprev k back));
        last_is =
            (λ i. prev_last (at.next i) k ((it.last_is ∙ ap (last_or None) at.whole ∙ last-parts None front back) i))
            ∙ prev_last-is k back (last_or None front) ∙ sym (last-parts None (renext k front) (d ∷ reprev k back));
        apart = apart-parts (renext k front) (d ∷ reprev k back) front (d ∷ back) (addresses-renext k front)
            (ap (λ l. d.at ∷ l) (addresses-reprev k back)) apart₁;
      }

      pub entries-linked : entries_of done ≡ put_after (address_of after) (cell d.at d.value.entry) (entries_of cs)
      entries-linked =
          let es = entries_of front in let fs = entries_of back in let e = cell d.at d.value.entry in
          let apart' : AreDistinct (addresses (es ++ fs)) =
          subst AreDistinct (sym (addresses-parts es fs ∙ (λ i. addresses-entries front i ++ addresses-entries back i)))
          (subst AreDistinct (addresses-parts front back) apart₀) in
          entries-parts (renext k front) (d ∷ reprev k back) ∙ (λ i. entries-renext k front i ++ e ∷ entries-reprev k back i)
          ∙ sym ((λ i. put_after (address_of (at.is i)) e (entries_of (at.whole i)))
          ∙ (λ i. put_after ((last-place front ∙ sym (last-entries front)) i) e (entries-parts front back i)) ∙ put-is es fs e apart')

  -- a node is taken out
  module _ (cs : List (Cell (Node E))) (first last : Neighbour E) (it : IsLinkedList cs first last) (p : Ptr) (n : Node E)
      (is : value_at p cs ≡ Some n) where
    abbrev pub spot : Found p n cs
    spot = found p n cs is

    abbrev c : Cell (Node E)
    c = cell p n

    abbrev left : List (Cell (Node E))
    left = spot.front

    abbrev right : List (Cell (Node E))
    right = spot.back

    split : AreLinked None left (Some (link_to c)) × AreLinked (last_or None left) (c ∷ right) None
    unfolding head_or
    split = linked-parts None left (c ∷ right) None (subst (λ l. AreLinked None l None) spot.whole it.linked)

    pub prev-was : n.prev ≡ last_or None left
    unfolding AreLinked
    prev-was = split.1.0

    pub next-was : n.next ≡ head_or None right
    unfolding AreLinked
    next-was = split.1.1

    apart-left : AreDistinct (addresses (left ++ right))
    apart-left =
        subst AreDistinct (sym (addresses-parts left right))
        (apart-without (addresses left) p (addresses right)
        (subst AreDistinct (ap addresses spot.whole ∙ addresses-parts left (c ∷ right)) it.apart)).rest

    pub without-cells : without p cs ≡ left ++ right
    without-cells = ap (without p) spot.whole ∙ without-at p n right left spot.before

    pub there-prev : IsThere n.prev (without p cs)
    there-prev = subst (λ l. IsThere n.prev l) (sym without-cells)
        (subst (λ a. IsThere a (left ++ right)) (sym prev-was) (there-last left right))

    pub closed-next : next_set n.prev n.next (without p cs) ≡ renext n.next left ++ right
    closed-next = (λ i. next_set (prev-was i) n.next (without-cells i)) ∙ next-is n.next left right apart-left

    pub there-next : IsThere n.next (next_set n.prev n.next (without p cs))
    there-next = subst (λ l. IsThere n.next l) (sym closed-next)
        (subst (λ a. IsThere a (renext n.next left ++ right)) (sym next-was) (there-head (renext n.next left) right))

    abbrev pub rest : List (Cell (Node E))
    rest = renext n.next left ++ reprev n.prev right

    pub closed-cells : prev_set n.next n.prev (next_set n.prev n.next (without p cs)) ≡ rest
    closed-cells =
        (λ i. prev_set (next-was i) n.prev (closed-next i))
        ∙ prev-is n.prev (renext n.next left) right
        (apart-parts (renext n.next left) right left right (addresses-renext n.next left) refl apart-left)

    pub unlinked : IsLinkedList rest (next_first n.prev n.next first) (prev_last n.next n.prev last)
    unfolding head_or last_or AreLinked
    unlinked = record {
      linked =
          parts-linked None (renext n.next left) (reprev n.prev right) None
          (subst (λ a. AreLinked None (renext n.next left) a) (next-was ∙ sym (head-reprev None n.prev right))
          (renext-linked None n.next left (Some (link_to c)) split.0))
          (subst (λ a. AreLinked a (reprev n.prev right) None) (prev-was ∙ sym (last-renext None n.next left))
          (reprev-linked (Some (link_to c)) n.prev right None split.1.2));
      first_is =
          (λ i. next_first (prev-was i) n.next ((it.first_is ∙ ap (head_or None) spot.whole ∙ head-parts None left (c ∷ right)) i))
          ∙ next_first-is n.next left (Some (link_to c))
          ∙ (λ i. head_or ((next-was ∙ sym (head-reprev None n.prev right)) i) (renext n.next left))
          ∙ sym (head-parts None (renext n.next left) (reprev n.prev right));
      last_is =
          (λ i. prev_last (next-was i) n.prev ((it.last_is ∙ ap (last_or None) spot.whole ∙ last-parts None left (c ∷ right)) i))
          ∙ prev_last-is n.prev right (Some (link_to c))
          ∙ (λ i. last_or ((prev-was ∙ sym (last-renext None n.next left)) i) (reprev n.prev right))
          ∙ sym (last-parts None (renext n.next left) (reprev n.prev right));
      apart = apart-parts (renext n.next left) (reprev n.prev right) left right (addresses-renext n.next left)
          (addresses-reprev n.prev right) apart-left;
    }

    pub entries-unlinked : entries_of rest ≡ without p (entries_of cs)
    entries-unlinked =
        entries-parts (renext n.next left) (reprev n.prev right) ∙ (λ i. entries-renext n.next left i ++ entries-reprev n.prev right i)
        ∙ sym (ap (λ l. without p (entries_of l)) spot.whole ∙ ap (without p) (entries-parts left (c ∷ right))
        ∙ without-at p n.entry (entries_of right) (entries_of left)
        (subst (λ l. has p l ≡ false) (sym (addresses-entries left)) spot.before))

  -- what an answer knows of the fields
  pub is-linked-list : {cs : List (Cell (Node E))} {first last : Neighbour E} → AreLinked None cs None → first ≡ head_or None cs
      → last ≡ last_or None cs → AreDistinct (addresses cs) → IsLinkedList cs first last
  is-linked-list s e f d = record { linked = s; first_is = e; last_is = f; apart = d }

  pub there-of : (after : Neighbour E) (cs : List (Cell (Node E))) → IsThere after (entries_of cs) → IsThere after cs
  there-of None cs h = tt
  there-of (Some l) cs h = there-entries l.at cs h

  -- ---- what stands beside an entry
  pub head-place : (cs : List (Cell (Node E))) → address_of (head_or None cs) ≡ first_address cs
  unfolding head_or first_address
  head-place [] = refl
  head-place (c ∷ cs) = refl

  pub first-entries : (cs : List (Cell (Node E))) → first_address (entries_of cs) ≡ first_address cs
  unfolding first_address
  first-entries [] = refl
  first-entries (c ∷ cs) = refl

  module _ (cs : List (Cell (Node E))) (first last : Neighbour E) (it : IsLinkedList cs first last) (p : Ptr) (n : Node E)
      (is : value_at p cs ≡ Some n) where
    whole-entries : entries_of cs ≡ entries_of (left cs first last it p n is) ++ cell p n.entry ∷ entries_of (right cs first last it p n is)
    whole-entries = ap entries_of (spot cs first last it p n is).whole
        ∙ entries-parts (left cs first last it p n is) (cell p n ∷ right cs first last it p n is)

    pub stands-behind : StandsBehind p (address_of n.prev) (entries_of cs)
    stands-behind = record {
      front = entries_of (left cs first last it p n is);
      value = n.entry;
      back = entries_of (right cs first last it p n is);
      whole = whole-entries;
      is = ap address_of (prev-was cs first last it p n is) ∙ last-place (left cs first last it p n is)
          ∙ sym (last-entries (left cs first last it p n is));
    }

    pub stands-before : StandsBefore p (address_of n.next) (entries_of cs)
    stands-before = record {
      front = entries_of (left cs first last it p n is);
      value = n.entry;
      back = entries_of (right cs first last it p n is);
      whole = whole-entries;
      is = ap address_of (next-was cs first last it p n is) ∙ head-place (right cs first last it p n is)
          ∙ sym (first-entries (right cs first last it p n is));
    }

  -- ---- an entry is changed
  module _ (cs : List (Cell (Node E))) (first last : Neighbour E) (it : IsLinkedList cs first last) (p : Ptr) (n : Node E)
      (is : value_at p cs ≡ Some n) (w : E) where
    abbrev lf : List (Cell (Node E))
    lf = left cs first last it p n is

    abbrev rt : List (Cell (Node E))
    rt = right cs first last it p n is

    abbrev sp : Found p n cs
    sp = spot cs first last it p n is

    abbrev pub changed : List (Cell (Node E))
    changed = lf ++ cell p (record n { entry = w }) ∷ rt

    pub changed-cells : set_at p (record n { entry = w }) cs ≡ changed
    changed-cells = ap (set_at p (record n { entry = w })) sp.whole ∙ set-at p n rt (record n { entry = w }) lf sp.before

    pub reentered : IsLinkedList changed first last
    unfolding AreLinked head_or last_or
    reentered =
        let parts = split cs first last it p n is in
        record {
          linked = parts-linked None lf (cell p (record n { entry = w }) ∷ rt) None parts.0 (parts.1.0, parts.1.1, parts.1.2);
          first_is = it.first_is ∙ ap (head_or None) sp.whole ∙ head-parts None lf (cell p n ∷ rt)
              ∙ sym (head-parts None lf (cell p (record n { entry = w }) ∷ rt));
          last_is = it.last_is ∙ ap (last_or None) sp.whole ∙ last-parts None lf (cell p n ∷ rt)
              ∙ sym (last-parts None lf (cell p (record n { entry = w }) ∷ rt));
          apart = apart-parts lf (cell p (record n { entry = w }) ∷ rt) lf (cell p n ∷ rt) refl refl
              (subst (λ l. AreDistinct (addresses l)) sp.whole it.apart);
        }

    pub entries-changed : entries_of changed ≡ set_at p w (entries_of cs)
    entries-changed =
        entries-parts lf (cell p (record n { entry = w }) ∷ rt)
        ∙ sym (ap (set_at p w) (ap entries_of sp.whole ∙ entries-parts lf (cell p n ∷ rt))
        ∙ set-at p n.entry (entries_of rt) w (entries_of lf) (subst (λ l. has p l ≡ false) (sym (addresses-entries lf)) sp.before))
