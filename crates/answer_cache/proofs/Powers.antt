-- What a mask leaves of a number, where one bit of the number of groups is set.
use Rattle.std.proofs.Common.{◌≡◌, ◌+◌, ◌-◌, ◌/◌, ◌%◌, ◌^◌, ◌≤◌, IsTrue, ℕ, zero, suc, arith, refl}
use Rattle.std.specs.Int.{is_power_of_two}
use Rattle.std.specs.Int.Bits.{bit_and}
use Rattle.std.specs.Int.Count.{ones, ones_step}
use Rattle.std.proofs.Math.Nat.{two-pow-succ}
use Rattle.std.proofs.lemmas.Bool.{eqb-true}
use Rattle.std.proofs.lemmas.Nat.{and_mask, ones_le_self, zero_from_ones}
use Rattle.answer_cache.specs.Lists.{IsGroupCount}

-- a number with one bit is a power of two
one-bit : (most n : ℕ) → n ≤ most → ones n ≡ 1 → (k : ℕ) × (n ≡ 2 ^ k)
one-bit zero n low one = let few = ones_le_self n in absurd (omega (arith, low, one, few))
one-bit (suc most) n low one =
    by-last (n % 2) refl (omega arith) (λ even. one-bit most (n / 2) (omega (arith, low)) (omega (arith, step, even, one)))
  where
    step : ones n ≡ n % 2 + ones (n / 2)
    step = ones_step n

    by-last : (last : ℕ) → n % 2 ≡ last → last ≤ 1 → (n % 2 ≡ 0 → (k : ℕ) × (n / 2 ≡ 2 ^ k)) → (k : ℕ) × (n ≡ 2 ^ k)
    by-last zero is few more =
        let half = more is in
        let twice = two-pow-succ half.0 in
        let same = half.1 in (suc half.0, omega (arith, is, twice, same))
    by-last (suc zero) is few more =
        let rest = zero_from_ones (n / 2) (omega (arith, step, is, one)) in (0, omega (arith, is, rest))
    by-last (suc (suc last)) is few more = absurd (omega (arith, few))

pub masked : (groups n : ℕ) → IsTrue (is_power_of_two groups) → bit_and n (groups - 1) ≡ n % groups
masked groups n power =
    let it = one-bit groups groups (omega arith) (eqb-true (ones groups) 1 power) in
    rw it.1 (and_mask n it.0)

-- a list can be of 64 groups
pub sixty-four : IsGroupCount 64
unfolding ones
sixty-four = record { least = omega arith; most = omega arith; power = refl }
