-- The nodes that were placed for a group, and the last of them.
use Rattle.std.proofs.Common.{◌≡◌, ◌≢◌, ℕ, ◌<◌, ◌==◌, ◌%◌, ◌⊎◌, inl, inr, Bool, true, false, List, [], ◌∷◌, ◌++◌, refl, ap, sym, ◌∙◌, subst, append_assoc, arith}
use Rattle.std.proofs.lemmas.Bool.{eqb-true, eq-eqb, ne_eqb}
use Rattle.std.proofs.lemmas.List.Elements.{filter-append}
use Rattle.dns_message.specs.declared.question.Question.{Question}
use Rattle.answer_log.specs.Groups.{group_in, hash_of, hashed_of}
use Rattle.answer_log.specs.Histories.{in_group}
use Rattle.answer_log.specs.Logs.{history, is_in, placed_of, top_from, top, In, Unplaced, Once}
use Rattle.answer_log.specs.declared.event.Event.{Event}
use Rattle.answer_log.specs.declared.event.Event.TheVariants.{Asks, Named, Opened, Placed}
use Rattle.answer_log.specs.declared.store.Store.{Store}
use Rattle.answer_log.proofs.Logs.{history-append, in-here, in-left, once-right, top-append, unplaced-right}

pub group-low : (groups : ℕ) → 0 < groups → (question : Question) → group_in groups question < groups
group-low groups some question = low (hash_of (hashed_of question)) groups some
  where
    low : (n m : ℕ) → 0 < m → n % m < m
    low n m some = omega arith

-- a log without its first event
once-tail : (e : Event) (log : List Event) → Once (e ∷ log) → Once log
once-tail e log once = once-right (e ∷ []) log once

-- a node is placed at one place
one-place : (n : ℕ) (x y : Store) (l k : ℕ) (before after before' after' : List Event)
    → before ++ Placed n x l ∷ after ≡ before' ++ Placed n y k ∷ after'
    → Once (before ++ Placed n x l ∷ after) → (before ≡ before') × (x ≡ y)
one-place n x y l k [] after [] after' same once = (refl, cc (same))
one-place n x y l k [] after (e ∷ before') after' same once =
    let U : List Event → Type 0 = λ w. Unplaced n w in
    let later : after ≡ before' ++ Placed n y k ∷ after' = cc (same) in
    absurd ((unplaced-right n before' (Placed n y k ∷ after') (subst U later once.0)).0 refl)
one-place n x y l k (e ∷ before) after [] after' same once =
    let O : Event → Type 0 = λ w. Once (w ∷ (before ++ Placed n x l ∷ after)) in
    let first : e ≡ Placed n y k = cc (same) in
    let o : Once (Placed n y k ∷ (before ++ Placed n x l ∷ after)) = subst O first once in
    absurd ((unplaced-right n before (Placed n x l ∷ after) o.0).0 refl)
one-place n x y l k (e ∷ before) after (e' ∷ before') after' same once =
    let more = one-place n x y l k before after before' after' (cc (same)) (once-tail e (before ++ Placed n x l ∷ after) once) in
    let first : e ≡ e' = cc (same) in
    (ap (λ z. z ∷ before) first ∙ ap (λ w. e' ∷ w) more.0, more.1)

-- the node of a group that was placed last
pub record Last (groups group : ℕ) (log : List Event) (node : ℕ) : Type 0 where
  pub before : List Event
  pub store : Store
  pub link : ℕ
  pub after : List Event
  pub split : log ≡ before ++ Placed node store link ∷ after
  pub its : group_in groups store.question ≡ group
  pub none : in_group groups group (history after) ≡ []

module _ (groups : ℕ) where
  pub placed-append : (group : ℕ) (xs ys : List Event)
      → placed_of groups group (xs ++ ys) ≡ placed_of groups group xs ++ placed_of groups group ys
  placed-append group xs ys = filter-append (is_in groups group) xs ys

  pub placed-here : (group n : ℕ) (x : Store) (l : ℕ) (xs : List Event) → group_in groups x.question ≡ group
      → placed_of groups group (Placed n x l ∷ xs) ≡ Placed n x l ∷ placed_of groups group xs
  placed-here group n x l xs same = rw (same, eq-eqb group group refl) refl

  pub placed-else : (group n : ℕ) (x : Store) (l : ℕ) (xs : List Event) → group_in groups x.question ≢ group
      → placed_of groups group (Placed n x l ∷ xs) ≡ placed_of groups group xs
  placed-else group n x l xs other = rw (ne_eqb (group_in groups x.question) group other) refl

  pub top-on : (group p : ℕ) (xs ys : List Event)
      → top_from p (placed_of groups group (xs ++ ys)) ≡ top_from (top_from p (placed_of groups group xs)) (placed_of groups group ys)
  top-on group p xs ys = ap (top_from p) (placed-append group xs ys) ∙ top-append p (placed_of groups group xs) (placed_of groups group ys)

  in-later : (group : ℕ) (e first : Event) (xs : List Event) (is : Bool) → is_in groups group first ≡ is → In e (placed_of groups group xs)
      → In e (placed_of groups group (first ∷ xs))
  in-later group e first xs true is i = rw is (inr i)
  in-later group e first xs false is i = rw is i

  -- what is placed is placed for its group
  pub in-group : (n : ℕ) (x : Store) (l : ℕ) (xs : List Event) → In (Placed n x l) xs
      → In (Placed n x l) (placed_of groups (group_in groups x.question) xs)
  in-group n x l [] i = i
  in-group n x l (Opened t g ∷ xs) i = elim i [ inl q ↦ absurd (cc (q)) | inr j ↦ in-group n x l xs j ]
  in-group n x l (Asks s t ∷ xs) i = elim i [ inl q ↦ absurd (cc (q)) | inr j ↦ in-group n x l xs j ]
  in-group n x l (Named m y k ∷ xs) i = elim i [ inl q ↦ absurd (cc (q)) | inr j ↦ in-group n x l xs j ]
  in-group n x l (Placed m y k ∷ xs) i = elim i [
    | inl q ↦
        (let I : List Event → Type 0 = λ w. In (Placed n x l) w in
        let same : y ≡ x = cc (q) in
        subst I (sym (placed-here (group_in groups x.question) m y k xs (ap (λ (z : Store). group_in groups z.question) same))) (inl q))
    | inr j ↦ in-later (group_in groups x.question) (Placed n x l) (Placed m y k) xs _ refl (in-group n x l xs j)
  ]

  -- nothing was placed for the group, or there is a node placed last
  abbrev pub LastPlaced : ℕ → ℕ → List Event → Type 0
  LastPlaced group p log = ((top_from p (placed_of groups group log) ≡ p) × (in_group groups group (history log) ≡ []))
      ⊎ Last groups group log (top_from p (placed_of groups group log))

  last-later : (group : ℕ) (e : Event) (xs : List Event) (node : ℕ) → Last groups group xs node → Last groups group (e ∷ xs) node
  last-later group e xs node h = record {
    before = e ∷ h.before;
    store = h.store;
    link = h.link;
    after = h.after;
    split = ap (λ w. e ∷ w) h.split;
    its = h.its;
    none = h.none;
  }

  last-when : (group p n : ℕ) (x : Store) (l : ℕ) (xs : List Event) (is : Bool) → (group_in groups x.question == group) ≡ is
      → LastPlaced group p xs → LastPlaced group n xs → LastPlaced group p (Placed n x l ∷ xs)
  last-when group p n x l xs true is old new =
      let same = eqb-true (group_in groups x.question) group is in
      rw is (elim new [
        | inl h ↦ inr (record {
          before = [];
          store = x;
          link = l;
          after = xs;
          split = ap (λ (k : ℕ). Placed k x l ∷ xs) (sym h.0);
          its = same;
          none = h.1;
        })
        | inr h ↦ inr (last-later group (Placed n x l) xs (top_from n (placed_of groups group xs)) h)
      ])
  last-when group p n x l xs false is old new =
      rw is (elim old [
        | inl h ↦ inl h
        | inr h ↦ inr (last-later group (Placed n x l) xs (top_from p (placed_of groups group xs)) h)
      ])

  pub last_placed : (group p : ℕ) (xs : List Event) → LastPlaced group p xs
  last_placed group p [] = inl (refl, refl)
  last_placed group p (Opened t g ∷ xs) = elim (last_placed group p xs) [
    | inl h ↦ inl h
    | inr h ↦ inr (last-later group (Opened t g) xs (top_from p (placed_of groups group xs)) h)
  ]
  last_placed group p (Asks s t ∷ xs) = elim (last_placed group p xs) [
    | inl h ↦ inl h
    | inr h ↦ inr (last-later group (Asks s t) xs (top_from p (placed_of groups group xs)) h)
  ]
  last_placed group p (Named n x l ∷ xs) = elim (last_placed group p xs) [
    | inl h ↦ inl h
    | inr h ↦ inr (last-later group (Named n x l) xs (top_from p (placed_of groups group xs)) h)
  ]
  last_placed group p (Placed n x l ∷ xs) = last-when group p n x l xs _ refl (last_placed group p xs) (last_placed group n xs)

  -- the stores of a group up to its last node
  pub stores-last : (group : ℕ) (log before after : List Event) (n : ℕ) (x : Store) (l : ℕ) → log ≡ before ++ Placed n x l ∷ after
      → group_in groups x.question ≡ group → in_group groups group (history after) ≡ []
      → in_group groups group (history log) ≡ in_group groups group (history before) ++ x ∷ []
  stores-last group log before after n x l split its none =
      ap (λ w. in_group groups group (history w)) split
      ∙ (ap (in_group groups group) (history-append before (Placed n x l ∷ after))
      ∙ (filter-append (λ it. group_in groups it.question == group) (history before) (x ∷ history after)
      ∙ rw (its, eq-eqb group group refl, none) refl))

  -- where the last node of a group is the same, nothing was placed for it since
  pub same-top : (group : ℕ) (v r log : List Event) → v ++ r ≡ log → Once log
      → ((n : ℕ) (x : Store) (l : ℕ) → In (Placed n x l) log → n ≢ 0)
      → top groups group log ≡ top groups group v → in_group groups group (history r) ≡ []
  same-top group v r log p once some same =
      let L : List Event → Type 0 = λ w. Once w in
      elim (last_placed group (top groups group v) r) [
        | inl h ↦ h.1
        | inr h ↦
            (let m : ℕ = top_from (top groups group v) (placed_of groups group r) in
            let n : m ≡ top groups group v = sym (top-on group 0 v r) ∙ (ap (top groups group) p ∙ same) in
            let all : log ≡ (v ++ h.before) ++ Placed m h.store h.link ∷ h.after = sym p ∙ (ap (λ w. v ++ w) h.split
            ∙ sym (append_assoc v h.before (Placed m h.store h.link ∷ h.after))) in
            let I : List Event → Type 0 = λ w. In (Placed m h.store h.link) w in
            elim (last_placed group 0 v) [
              | inl k ↦ absurd (some m h.store h.link (subst I (sym all) (in-here (Placed m h.store h.link) (v ++ h.before) h.after))
                  (n ∙ k.0))
              | inr k ↦
                  (let whole : log ≡ k.before ++ Placed (top groups group v) k.store k.link ∷ (k.after ++ r) = sym p
                  ∙ (ap (λ w. w ++ r) k.split ∙ append_assoc k.before (Placed (top groups group v) k.store k.link ∷ k.after) r) in
                  let o = once-right k.before (Placed (top groups group v) k.store k.link ∷ (k.after ++ r)) (subst L whole once) in
                  let U : List Event → Type 0 = λ w. Unplaced (top groups group v) w in
                  let u = unplaced-right (top groups group v) h.before (Placed m h.store h.link ∷ h.after)
                  (subst U h.split (unplaced-right (top groups group v) k.after r o.0)) in
                  absurd (u.0 n))
            ])
      ]

  -- a node placed last is not 0
  placed-some : (log front more : List Event) (group : ℕ) → front ++ more ≡ log
      → ((n : ℕ) (x : Store) (l : ℕ) → In (Placed n x l) log → n ≢ 0)
      → Last groups group front (top groups group front) → top groups group front ≢ 0
  placed-some log front more group p some h =
      let I : List Event → Type 0 = λ w. In (Placed (top groups group front) h.store h.link) w in
      let here : In (Placed (top groups group front) h.store h.link) front = subst I (sym h.split)
      (in-here (Placed (top groups group front) h.store h.link) h.before h.after) in
      some (top groups group front) h.store h.link (subst I p (in-left (Placed (top groups group front) h.store h.link) front more here))

  -- the node placed last for a group tells which stores the group had by then
  pub one-top : (log front more other others : List Event) (group group' : ℕ) → front ++ more ≡ log → other ++ others ≡ log → Once log
      → ((n : ℕ) (x : Store) (l : ℕ) → In (Placed n x l) log → n ≢ 0)
      → top groups group front ≡ top groups group' other → in_group groups group (history front) ≡ in_group groups group' (history other)
  one-top log front more other others group group' p q once some same =
      elim (last_placed group 0 front) [
        | inl h ↦
            elim (last_placed group' 0 other) [
              | inl k ↦ h.1 ∙ sym k.1
              | inr k ↦ absurd (placed-some log other others group' q some k (sym same ∙ h.0))
            ]
        | inr h ↦
            elim (last_placed group' 0 other) [
              | inl k ↦ absurd (placed-some log front more group p some h (same ∙ k.0))
              | inr k ↦
                  (let n : ℕ = top groups group front in
                  let P : ℕ → Type 0 = λ m. log ≡ k.before ++ Placed m k.store k.link ∷ (k.after ++ others) in
                  let one : log ≡ h.before ++ Placed n h.store h.link ∷ (h.after ++ more) = sym p
                  ∙ (ap (λ w. w ++ more) h.split ∙ append_assoc h.before (Placed n h.store h.link ∷ h.after) more) in
                  let two : log ≡ k.before ++ Placed n k.store k.link ∷ (k.after ++ others) = subst P (sym same) (sym q
                  ∙ (ap (λ w. w ++ others) k.split
                  ∙ append_assoc k.before (Placed (top groups group' other) k.store k.link ∷ k.after) others)) in
                  let L : List Event → Type 0 = λ w. Once w in
                  let there = one-place n h.store k.store h.link k.link h.before (h.after ++ more) k.before (k.after ++ others)
                  (sym one ∙ two) (subst L one once) in
                  let grouped : group ≡ group' = sym h.its ∙ (ap (λ (z : Store). group_in groups z.question) there.1 ∙ k.its) in
                  stores-last group front h.before h.after n h.store h.link h.split h.its h.none
                  ∙ (ap (λ w. in_group groups group (history w) ++ h.store ∷ []) there.0
                  ∙ (ap (λ g. in_group groups g (history k.before) ++ h.store ∷ []) grouped
                  ∙ (ap (λ z. in_group groups group' (history k.before) ++ z ∷ []) there.1
                  ∙ sym (stores-last group' other k.before k.after (top groups group' other) k.store k.link k.split k.its k.none)))))
            ]
      ]
