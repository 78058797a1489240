-- Each move keeps the rule.
use Rattle.std.proofs.Common.{◌≡◌, ◌≢◌, inl, inr, ⊎_elim, ℕ, zero, suc, ◌+◌, ◌-◌, ◌<◌, true, false, true≢false, List, [], ◌∷◌, ◌++◌, length, set, take, refl, sym, ap, ◌∙◌, subst, append_assoc, arith}
use Rattle.std.proofs.lemmas.List.{length-take, get_or-take}
use Rattle.std.proofs.lemmas.List.Elements.{All-contains, All-nil, Contains-append_cases, Contains-append_right}
use Rattle.std.proofs.lemmas.List.Sums.{sum_by-append, sum_by_push}
use Rattle.std.specs.List.{Contains, sum_by}
use Rattle.atomic_table.proofs.Lists.{at_set, at_snoc}
use Rattle.crossbeam_channel.specs.Fifo.{Forks, Learns, Merges, Pops, Pushes}
use mathlib.Core.Option.{some, some-injective, some-ne-none}
use lib.ListN.{get_elem?}
use Rattle.sip_workers.proofs.Totals.{lone, total-set}
use Rattle.sip_workers.specs.Rules.{Deals, IdleTookNone, IsDealt, IsEnd, IsPut, IsWhole, Stands, all_parts, pass_view}
use Rattle.sip_workers.specs.declared.batch.Batch.{Batch}
use Rattle.sip_workers.specs.declared.queue.PassView.{PassView}

-- ---- of each view, after a change of one

each-set : (F : ℕ → PassView → Type 0) (views : List PassView) (port : ℕ) (w : PassView) → F port w
    → ((j : ℕ) (u : PassView) → get_elem? views j ≡ some u → F j u) → (j : ℕ) (u : PassView)
    → get_elem? (set views port w) j ≡ some u → F j u
each-set F views port w mine others j u is =
    ⊎_elim
    (λ (x : (j ≡ port) × (w ≡ u)). subst (λ (y : ℕ × PassView). F y.0 y.1) (λ i. (sym x.0 i, x.1 i)) mine)
    (λ (x : (j ≢ port) × (get_elem? views j ≡ some u)). others j u x.1)
    (at_set views port j w u is)

each-more : (F : ℕ → PassView → Type 0) (views : List PassView) (w : PassView) → ((j : ℕ) → F j w)
    → ((j : ℕ) (u : PassView) → get_elem? views j ≡ some u → F j u) → (j : ℕ) (u : PassView) → get_elem? (views ++ w ∷ []) j ≡ some u
    → F j u
each-more F views w mine others j u is =
    ⊎_elim (λ (was : get_elem? views j ≡ some u). others j u was) (λ (new : w ≡ u). subst (F j) new (mine j)) (at_snoc views w u j is)

-- who does not deal
no-dealer : (dealer : ℕ) (put : List Batch) (port parts : ℕ) (own taken : List Batch)
    → Deals dealer put port (pass_view false parts own taken)
no-dealer dealer put port parts own taken deals = absurd (true≢false (sym deals))

-- ---- what stands among what was put

contains-take : (k : ℕ) (xs : List Batch) (x : Batch) → Contains (take k xs) x → Contains xs x
contains-take k xs x it =
    let inside : it.0 < length (take k xs) = it.1 in
    let short = length-take k xs in
    let within : it.0 < k = omega (arith, inside, short) in
    (it.0, omega (arith, inside, short), sym (get_or-take k xs it.0 x within) ∙ it.2)

pub stands : (batches put : List Batch) (x : Batch) → IsPut batches put → Contains put x → Stands batches x
stands batches put x it at =
    ⊎_elim
    (λ (front : Contains (take it.some_of batches) x). inr (contains-take it.some_of batches x front))
    (λ (back : Contains it.ends x). inl (All-contains IsEnd it.ends x it.end back))
    (Contains-append_cases (take it.some_of batches) it.ends x (subst (λ l. Contains l x) it.is at))

-- ---- the moves

module _ (batches : List Batch) where
  pub begins : IsDealt batches [] (pass_view true all_parts [] [] ∷ [])
  begins = record {
    dealer = 0;
    gone = [];
    put = record { some_of = 0; ends = []; is = refl; end = All-nil IsEnd };
    deals = one;
    parts = refl;
    taken = λ h. refl;
    idle = λ port v is. none port v is;
  }
    where
      first : PassView
      first = pass_view true all_parts [] []

      one : (port : ℕ) (v : PassView) → get_elem? (first ∷ []) port ≡ some v → Deals 0 [] port v
      one zero v is = subst (Deals 0 [] 0) (some-injective first v is) (λ _. (refl, refl))
      one (suc port) v is = absurd (some-ne-none v (sym is))

      none : (port : ℕ) (v : PassView) → get_elem? (first ∷ []) port ≡ some v → IdleTookNone v
      none zero v is = subst IdleTookNone (some-injective first v is) (λ _. refl)
      none (suc port) v is = absurd (some-ne-none v (sym is))

  pub puts : (n port : ℕ) (v : PassView) (x : Batch) → v.deals ≡ true → IsPut batches (v.put ++ x ∷ [])
      → Pushes (IsDealt batches) n port v x (λ w. w ≡ pass_view v.deals v.parts (v.put ++ x ∷ []) v.taken)
  puts n port v x may next items views room it at =
      let w = pass_view v.deals v.parts (v.put ++ x ∷ []) v.taken in
      let mine = it.deals port v at may in
      let same : v.put ++ x ∷ [] ≡ it.gone ++ (items ++ x ∷ []) = ap (λ l. l ++ x ∷ []) mine.1 ∙ append_assoc it.gone items (x ∷ []) in
      let now : Deals it.dealer (it.gone ++ (items ++ x ∷ [])) port w = λ _. (mine.0, same) in (
        w,
        record {
          dealer = it.dealer;
          gone = it.gone;
          put = subst (IsPut batches) same next;
          deals = λ j u is. new-deals it.dealer port it.gone items views v w x it.deals mine.0 now j u is;
          parts = (let total = total-set (λ u. u.parts) views port v w at in let before = it.parts in omega (arith, total, before));
          taken = λ h. (let total = total-set (λ u. sum_by h u.taken) views port v w at in let before = it.taken h in omega
              (arith, total, before));
          idle = each-set (λ _. IdleTookNone) views port w (it.idle port v at) it.idle;
        },
        refl,
      )
    where
      new-deals : (dealer port : ℕ) (gone items : List Batch) (views : List PassView) (v w : PassView) (x : Batch)
          → ((j : ℕ) (u : PassView) → get_elem? views j ≡ some u → Deals dealer (gone ++ items) j u) → port ≡ dealer
          → Deals dealer (gone ++ (items ++ x ∷ [])) port w
          → (j : ℕ) (u : PassView) → get_elem? (set views port w) j ≡ some u → Deals dealer (gone ++ (items ++ x ∷ [])) j u
      new-deals dealer port gone items views v w x old here now j u is =
          ⊎_elim
          (λ (y : (j ≡ port) × (w ≡ u)). subst (λ (z : ℕ × PassView). Deals dealer (gone ++ (items ++ x ∷ [])) z.0 z.1) (λ i.
          (sym y.0 i, y.1 i)) now)
          (λ (y : (j ≢ port) × (get_elem? views j ≡ some u)). λ may. absurd (y.0 ((old j u y.1 may).0 ∙ sym here)))
          (at_set views port j w u is)

  pub takes : (port : ℕ) (v : PassView) → 0 < v.parts
      → Pops (IsDealt batches) port v (λ x w. (w ≡ pass_view v.deals v.parts v.put (v.taken ++ x ∷ [])) × Stands batches x)
  takes port v part x items views it at =
      let w = pass_view v.deals v.parts v.put (v.taken ++ x ∷ []) in
      let same : it.gone ++ (x ∷ items) ≡ (it.gone ++ x ∷ []) ++ items = sym (append_assoc it.gone (x ∷ []) items) in
      let was : (j : ℕ) (u : PassView) → get_elem? views j ≡ some u → Deals it.dealer ((it.gone ++ x ∷ []) ++ items) j u =
      λ j u is may. (let one = it.deals j u is may in (one.0, one.1 ∙ same)) in (
        w,
        record {
          dealer = it.dealer;
          gone = it.gone ++ x ∷ [];
          put = subst (IsPut batches) same it.put;
          deals = each-set (Deals it.dealer ((it.gone ++ x ∷ []) ++ items)) views port w (was port v at) was;
          parts = (let total = total-set (λ u. u.parts) views port v w at in let before = it.parts in omega (arith, total, before));
          taken = λ h. (
              let total = total-set (λ u. sum_by h u.taken) views port v w at in
              let before = it.taken h in
              omega (arith, total, before, sum_by_push h v.taken x, sum_by_push h it.gone x)
              );
          idle = each-set (λ _. IdleTookNone) views port w (λ none. absurd (omega (arith, part, none))) it.idle;
        },
        (refl, stands batches (it.gone ++ (x ∷ items)) x it.put (Contains-append_right it.gone (x ∷ items) x (0, omega arith, refl))),
      )

  pub forks : (port : ℕ) (v : PassView) → 1 < v.parts
      → Forks (IsDealt batches) port v (pass_view v.deals (v.parts - 1) v.put v.taken) (pass_view false 1 [] [])
  forks port v parts items views it at =
      let left = pass_view v.deals (v.parts - 1) v.put v.taken in
      let right = pass_view false 1 [] [] in
      let put = it.gone ++ items in
      record {
        dealer = it.dealer;
        gone = it.gone;
        put = it.put;
        deals = each-more (Deals it.dealer put) (set views port left) right (λ j. no-dealer it.dealer put j 1 [] [])
            (each-set (Deals it.dealer put) views port left (it.deals port v at) it.deals);
        parts = (
            let total = total-set (λ u. u.parts) views port v left at in
            let before = it.parts in
            omega (arith, total, before, parts, sum_by_push (λ (u : PassView). u.parts) (set views port left) right)
            );
        taken = λ h. (
            let total = total-set (λ u. sum_by h u.taken) views port v left at in
            let before = it.taken h in
            omega (arith, total, before, sum_by_push (λ (u : PassView). sum_by h u.taken) (set views port left) right)
            );
        idle = each-more (λ _. IdleTookNone) (set views port left) right (λ j none. refl)
            (each-set (λ _. IdleTookNone) views port left (λ none. absurd (omega (arith, parts, none))) it.idle);
      }

  pub merges : (port : ℕ) (v : PassView) (other : ℕ) (u : PassView)
      → Merges (IsDealt batches) port v other u (pass_view v.deals (v.parts + u.parts) v.put (v.taken ++ u.taken)) (pass_view false 0 [] [])
  merges port v other u items views it at apart there =
      let both = pass_view v.deals (v.parts + u.parts) v.put (v.taken ++ u.taken) in
      let spent = pass_view false 0 [] [] in
      let put = it.gone ++ items in
      let was : get_elem? views other ≡ some u =
      ⊎_elim (λ (x : (other ≡ port) × (both ≡ u)). absurd (apart x.0)) (λ (x : (other ≢ port) × (get_elem? views other ≡ some u)). x.1)
      (at_set views port other both u there) in
      let idle : IdleTookNone both = λ none.
      (let mine = it.idle port v at (omega (arith, none)) in let theirs = it.idle other u was (omega (arith, none)) in
      ap (λ l. l ++ u.taken) mine ∙ theirs) in
      record {
        dealer = it.dealer;
        gone = it.gone;
        put = it.put;
        deals = each-set (Deals it.dealer put) (set views port both) other spent (no-dealer it.dealer put other 0 [] [])
            (each-set (Deals it.dealer put) views port both (it.deals port v at) it.deals);
        parts = (
            let first = total-set (λ u. u.parts) views port v both at in
            let second = total-set (λ u. u.parts) (set views port both) other u spent there in
            let before = it.parts in
            omega (arith, first, second, before)
            );
        taken = λ h. (
            let first = total-set (λ u. sum_by h u.taken) views port v both at in
            let second = total-set (λ u. sum_by h u.taken) (set views port both) other u spent there in
            let before = it.taken h in
            omega (arith, first, second, before, sum_by-append h v.taken u.taken)
            );
        idle = each-set (λ _. IdleTookNone) (set views port both) other spent (λ none. refl)
            (each-set (λ _. IdleTookNone) views port both idle it.idle);
      }

  pub learns : (port : ℕ) (v : PassView) → v.deals ≡ true → v.parts ≡ all_parts
      → Learns (IsDealt batches) port v (λ items. IsWhole v.put v.taken items)
  learns port v may all items views it at =
      let mine = it.deals port v at may in
      record {
        as_often = λ h. (
            let taken = it.taken h in
            let own = lone (λ (u : PassView). u.parts) (λ (u : PassView). sum_by h u.taken) views port v (λ j u is none. ap (sum_by h)
            (it.idle j u is none)) at (it.parts ∙ sym all) in
            omega (arith, taken, own, ap (sum_by h) mine.1, sum_by-append h it.gone items)
            );
        gone = it.gone;
        last = mine.1;
      }
