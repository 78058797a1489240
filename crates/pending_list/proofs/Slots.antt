-- The places of a table: which are free, and how many.
use Rattle.std.proofs.Common.{◌≡◌, ◌≢◌, ℕ, zero, suc, ◌<◌, ◌+◌, List, [], ◌∷◌, ◌++◌, length, get_or, set, slice_get, Option, Some, None, IsSome, refl, sym, ap, ◌∙◌, arith}
use Rattle.std.specs.List.{All, range_with_len}
use Rattle.std.specs.Prelude.{replicate}
use Rattle.std.proofs.lemmas.List.{length-append, length-set}
use Rattle.std.proofs.lemmas.List.Elements.{All-head, All-push}
use Rattle.std.proofs.lemmas.List.FromFn.{get_or-range_with_len, length-range_with_len}
use Rattle.std.proofs.lemmas.List.Quantifiers.{all_pairs_push}
use Rattle.pending_list.proofs.Finding.{front-of}
use Rattle.pending_list.proofs.Orders.{all-left, all-right, pairs-left}
use Rattle.pending_list.specs.Slots.{AreFree, flat, leads_at, taken}

module _ {X : Type 0} where
  pub get-other : (os : List X) (i j : ℕ) (x : X) → j ≢ i → slice_get (set os i x) j ≡ slice_get os j
  get-other [] i j x other = refl
  get-other (o ∷ os) zero zero x other = absurd (other refl)
  get-other (o ∷ os) zero (suc j) x other = refl
  get-other (o ∷ os) (suc i) zero x other = refl
  get-other (o ∷ os) (suc i) (suc j) x other = get-other os i j x (λ e. other (ap suc e))

module _ {X : Type 0} where
  pub taken-more : (os : List (Option X)) (i : ℕ) (x : X) → slice_get os i ≡ Some None → taken (set os i (Some x)) ≡ suc (taken os)
  unfolding taken
  taken-more [] i x e = absurd cc
  taken-more (None ∷ os) zero x e = refl
  taken-more (Some y ∷ os) zero x e = absurd cc
  taken-more (None ∷ os) (suc i) x e = taken-more os i x e
  taken-more (Some y ∷ os) (suc i) x e = ap suc (taken-more os i x e)

  pub taken-fewer : (os : List (Option X)) (i : ℕ) (y : X) → slice_get os i ≡ Some (Some y) → suc (taken (set os i None)) ≡ taken os
  unfolding taken
  taken-fewer [] i y e = absurd cc
  taken-fewer (None ∷ os) zero y e = absurd cc
  taken-fewer (Some z ∷ os) zero y e = refl
  taken-fewer (None ∷ os) (suc i) y e = taken-fewer os i y e
  taken-fewer (Some z ∷ os) (suc i) y e = ap suc (taken-fewer os i y e)

  pub taken-same : (os : List (Option X)) (i : ℕ) (x y : X) → slice_get os i ≡ Some (Some y) → taken (set os i (Some x)) ≡ taken os
  unfolding taken
  taken-same [] i x y e = absurd cc
  taken-same (None ∷ os) zero x y e = absurd cc
  taken-same (Some z ∷ os) zero x y e = refl
  taken-same (None ∷ os) (suc i) x y e = taken-same os i x y e
  taken-same (Some z ∷ os) (suc i) x y e = ap suc (taken-same os i x y e)

  pub leads-set : (os : List (Option X)) (i : ℕ) (o : Option X) → i < length os → leads_at (set os i o) i ≡ o
  leads-set [] i o small = absurd (omega arith)
  leads-set (x ∷ os) zero o small = refl
  leads-set (x ∷ os) (suc i) o small = leads-set os i o (omega arith)

  pub leads-other : (os : List (Option X)) (i j : ℕ) (o : Option X) → j ≢ i → leads_at (set os i o) j ≡ leads_at os j
  leads-other os i j o other = ap flat (get-other os i j o other)

  pub vacant-leads : (os : List (Option X)) (i : ℕ) → slice_get os i ≡ Some None → leads_at os i ≡ None
  vacant-leads os i e = ap flat e

  pub leads-within : (os : List (Option X)) (i : ℕ) (x : X) → leads_at os i ≡ Some x → (i < length os) × (slice_get os i ≡ Some (Some x))
  leads-within [] i x e = absurd cc
  leads-within (o ∷ os) zero x e = (omega arith, ap Some e)
  leads-within (o ∷ os) (suc i) x e = let on = leads-within os i x e in (let small = on.0 in omega arith, on.1)

  pub vacant-set : (os : List (Option X)) (i : ℕ) → i < length os → slice_get (set os i None) i ≡ Some None
  vacant-set [] i small = absurd (omega arith)
  vacant-set (o ∷ os) zero small = refl
  vacant-set (o ∷ os) (suc i) small = vacant-set os i (omega arith)

  pub some-of : (o : Option X) → IsSome o → (x : X) × (o ≡ Some x)
  some-of None e = absurd cc
  some-of (Some x) e = (x, refl)

  pub length-none : (limit : ℕ) (o : X) → length (replicate limit o) ≡ limit
  length-none zero o = refl
  length-none (suc limit) o = ap suc (length-none limit o)

  none-at : (limit place : ℕ) (o : X) → place < limit → slice_get (replicate limit o) place ≡ Some o
  none-at zero place o small = absurd (omega arith)
  none-at (suc limit) zero o small = refl
  none-at (suc limit) (suc place) o small = none-at limit place o (omega arith)

taken-none : (X : Type 0) (limit : ℕ) → taken {X = X} (replicate limit None) ≡ 0
unfolding taken
taken-none X zero = refl
taken-none X (suc limit) = taken-none X limit

-- all places are free at first
pub free-all : (X : Type 0) (limit : ℕ) → AreFree {X = X} (replicate limit None) (range_with_len 0 limit)
free-all X limit =
    let long = length-range_with_len 0 limit in
    record {
      vacant = λ k d small.
          let at = get_or-range_with_len 0 limit k d (omega (arith, small, long)) in
          rw at (none-at limit (0 + k) None (omega (arith, small, long)));
      once = λ i j d lt small same.
          let here = get_or-range_with_len 0 limit i d (omega (arith, small, long, lt)) in
          let there = get_or-range_with_len 0 limit j d (omega (arith, small, long)) in
          omega (arith, here, there, same, lt);
      all = let none = taken-none X limit in let all = length-none {X = Option X} limit None in omega (arith, long, none, all);
    }

module _ {X : Type 0} where
  -- the top of the stack is taken
  pub free-taken : (slots : List (Option X)) (front : List ℕ) (place : ℕ) (x : X) → AreFree slots (front ++ place ∷ [])
      → AreFree (set slots place (Some x)) front
  free-taken slots front place x it =
      let here = All-head (λ place. slice_get slots place ≡ Some None) place []
      (all-right (λ place. slice_get slots place ≡ Some None) front (place ∷ []) it.vacant) in
      let others = front-of (λ place later. place ≢ later) front place [] it.once in
      let left = all-left (λ place. slice_get slots place ≡ Some None) front (place ∷ []) it.vacant in
      record {
        vacant = λ k d small. get-other slots place (get_or front k d) (Some x) (others k d small) ∙ left k d small;
        once = pairs-left (λ place later. place ≢ later) front (place ∷ []) it.once;
        all =
            let more = taken-more slots place x here in
            let long = length-append front (place ∷ []) in
            let same = length-set slots place (Some x) in
            let all = it.all in
            omega (arith, more, long, same, all);
      }

  -- a place of a node is given back
  pub free-cleared : (slots : List (Option X)) (free : List ℕ) (place : ℕ) (x : X) → AreFree slots free
      → slice_get slots place ≡ Some (Some x)
      → place < length slots → AreFree (set slots place None) (free ++ place ∷ [])
  free-cleared slots free place x it has within =
      let others : All (λ other. other ≢ place) free =
      λ k d small same. let clash : Some None ≡ Some (Some x) = sym (it.vacant k d small) ∙ ap (slice_get slots) same ∙ has in absurd cc in
      record {
        vacant =
            All-push (λ other. slice_get (set slots place None) other ≡ Some None) free place
            (λ k d small. get-other slots place (get_or free k d) None (others k d small) ∙ it.vacant k d small)
            (vacant-set slots place within);
        once = all_pairs_push (λ place later. place ≢ later) free place it.once others;
        all =
            let fewer = taken-fewer slots place x has in
            let long = length-append free (place ∷ []) in
            let same = length-set slots place None in
            let all = it.all in
            omega (arith, fewer, long, same, all);
      }

  -- another node has the place of one
  pub free-kept : (slots : List (Option X)) (free : List ℕ) (place : ℕ) (x y : X) → AreFree slots free
      → slice_get slots place ≡ Some (Some y)
      → AreFree (set slots place (Some x)) free
  free-kept slots free place x y it has =
      let others : All (λ other. other ≢ place) free =
      λ k d small same. let clash : Some None ≡ Some (Some y) = sym (it.vacant k d small) ∙ ap (slice_get slots) same ∙ has in absurd cc in
      record {
        vacant = λ k d small. get-other slots place (get_or free k d) (Some x) (others k d small) ∙ it.vacant k d small;
        once = it.once;
        all =
            let same = length-set slots place (Some x) in
            let kept = taken-same slots place x y has in
            let all = it.all in
            omega (arith, kept, same, all);
      }
