-- Totals over what each pass_view has.
use Rattle.std.proofs.Common.{◌≡◌, ℕ, zero, suc, ◌+◌, ◌≤◌, List, [], ◌∷◌, set, refl, sym, ap, arith}
use Rattle.std.proofs.lemmas.List.Sums.{sum_by-cons}
use Rattle.std.specs.List.{sum_by}
use mathlib.Core.Option.{some, some-injective, some-ne-none}
use lib.ListN.{get_elem?}

module _ {A : Type 0} where
  -- the total after a change of one
  pub total-set : (f : A → ℕ) (xs : List A) (at : ℕ) (x y : A) → get_elem? xs at ≡ some x
      → sum_by f (set xs at y) + f x ≡ sum_by f xs + f y
  total-set f [] at x y is = absurd (some-ne-none x (sym is))
  total-set f (z ∷ xs) zero x y is =
      let same = ap f (some-injective z x is) in
      omega (arith, same, sum_by-cons f y xs, sum_by-cons f z xs)
  total-set f (z ∷ xs) (suc at) x y is =
      let later = total-set f xs at x y is in
      omega (arith, later, sum_by-cons f z (set xs at y), sum_by-cons f z xs)

  pub part-le-total : (f : A → ℕ) (xs : List A) (at : ℕ) (x : A) → get_elem? xs at ≡ some x → f x ≤ sum_by f xs
  part-le-total f [] at x is = absurd (some-ne-none x (sym is))
  part-le-total f (z ∷ xs) zero x is =
      let same = ap f (some-injective z x is) in omega (arith, same, sum_by-cons f z xs)
  part-le-total f (z ∷ xs) (suc at) x is =
      let later = part-le-total f xs at x is in omega (arith, later, sum_by-cons f z xs)

  module _ (p f : A → ℕ) where
    none : (xs : List A) → ((at : ℕ) (x : A) → get_elem? xs at ≡ some x → p x ≡ 0 → f x ≡ 0) → sum_by p xs ≡ 0 → sum_by f xs ≡ 0
    none [] idle zero-parts = refl
    none (z ∷ xs) idle zero-parts =
        let here : p z ≡ 0 = omega (arith, zero-parts, sum_by-cons p z xs) in
        let there : sum_by p xs ≡ 0 = omega (arith, zero-parts, sum_by-cons p z xs) in
        let later = none xs (λ at x is. idle (suc at) x is) there in
        omega (arith, later, idle 0 z refl here, sum_by-cons f z xs)

    -- who has each part has all
    pub lone : (xs : List A) (at : ℕ) (x : A) → ((at : ℕ) (x : A) → get_elem? xs at ≡ some x → p x ≡ 0 → f x ≡ 0)
        → get_elem? xs at ≡ some x → sum_by p xs ≡ p x → sum_by f xs ≡ f x
    lone [] at x idle is all = absurd (some-ne-none x (sym is))
    lone (z ∷ xs) zero x idle is all =
        let same = ap p (some-injective z x is) in
        let there : sum_by p xs ≡ 0 = omega (arith, all, same, sum_by-cons p z xs) in
        let later = none xs (λ at x is. idle (suc at) x is) there in
        omega (arith, later, ap f (some-injective z x is), sum_by-cons f z xs)
    lone (z ∷ xs) (suc at) x idle is all =
        let least = part-le-total p xs at x is in
        let here : p z ≡ 0 = omega (arith, all, least, sum_by-cons p z xs) in
        let there : sum_by p xs ≡ p x = omega (arith, all, here, sum_by-cons p z xs) in
        let later = lone xs at x (λ at x is. idle (suc at) x is) is there in
        omega (arith, later, idle 0 z refl here, sum_by-cons f z xs)
