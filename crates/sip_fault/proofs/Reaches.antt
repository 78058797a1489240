-- How far a text can go on.
use Rattle.std.proofs.Common.{◌≡◌, ℕ, ◌+◌, ◌<◌, ◌≤◌, ◌⊎◌, inl, inr, List, arith, drop, length, take}
use Rattle.std.proofs.Math.Nat.{eq-or-lt_of_le}
use Rattle.sip_fault.specs.Faults.{IsReach, IsFault, too_long, behind}

module _ (GoesOn : List ℕ → List ℕ → Type 0) (text : List ℕ) where
  not_before : (at at' : ℕ) → IsReach GoesOn text at → IsReach GoesOn text at' → at < at' → ⊥
  not_before at at' is is' less =
      let upto : at < length text = omega (arith, less, is'.within) in
      is.stops upto (is'.goes_on (at + 1) (omega arith) (omega (arith, less)))

  one_reach : (at at' : ℕ) → IsReach GoesOn text at → IsReach GoesOn text at' → at ≡ at'
  one_reach at at' is is' =
      let up : at < at' → ⊥ = not_before at at' is is' in
      let down : at' < at → ⊥ = not_before at' at is' is in
      omega arith

  pub one_fault : (at at' : ℕ) → IsFault GoesOn text at → IsFault GoesOn text at' → at ≡ at'
  one_fault at at' (too_long long e) (too_long long' e') = omega arith
  one_fault at at' (too_long long e) (behind short is) = absurd (omega arith)
  one_fault at at' (behind short is) (too_long long e) = absurd (omega arith)
  one_fault at at' (behind short is) (behind short' is') = one_reach at at' is is'

  -- ---- the search

  -- each beginning of up to so many octets can go on
  abbrev pub GoesOnUpTo : ℕ → Type 0
  GoesOnUpTo at = (count : ℕ) → 0 < count → count ≤ at → GoesOn (take count text) (drop count text)

  next_goes : (at count : ℕ) → GoesOnUpTo at → GoesOn (take (at + 1) text) (drop (at + 1) text) → 0 < count
      → (count ≡ at + 1) ⊎ (count < at + 1) → GoesOn (take count text) (drop count text)
  next_goes at count so_far next some (inl e) = rw e next
  next_goes at count so_far next some (inr less) = so_far count some (omega arith)

  pub further : (at : ℕ) → GoesOnUpTo at → GoesOn (take (at + 1) text) (drop (at + 1) text) → GoesOnUpTo (at + 1)
  further at so_far next = λ count some upto. next_goes at count so_far next some (eq-or-lt_of_le upto)
