-- Numbers below 100 in decimal digits.
use Rattle.std.proofs.Common.{◌≡◌, ℕ, ◌+◌, ◌*◌, ◌/◌, ◌%◌, ◌<◌, ◌≤◌, ◌⊎◌, inl, inr, List, [], ◌∷◌, ◌++◌, length, Option, Some, None, IfSome, zero, suc, get_or, sym, ap, ◌∙◌, arith}
use Rattle.std.specs.Fmt.{decimal}
use Rattle.std.proofs.lemmas.Bool.{cases_lt}
use Rattle.std.proofs.lemmas.Fmt.{decimal_digit, decimal_step}

-- two digits, the first of which is no zero
two : (tens ones : ℕ) → 1 ≤ tens → tens ≤ 9 → ones ≤ 9 → decimal (tens * 10 + ones) ≡ (48 + tens) ∷ (48 + ones) ∷ []
two tens ones some t o =
    let front : (tens * 10 + ones) / 10 ≡ tens = omega arith in
    let last : (tens * 10 + ones) % 10 ≡ ones = omega arith in
    decimal_step (tens * 10 + ones) (omega arith) (omega arith)
    ∙ ap (λ (n : ℕ). decimal n ++ ((48 + (tens * 10 + ones) % 10) ∷ [])) front
    ∙ ap (λ (n : ℕ). decimal tens ++ ((48 + n) ∷ [])) last
    ∙ ap (λ (l : List ℕ). l ++ ((48 + ones) ∷ [])) (decimal_digit tens (omega arith))

-- the digits of a number below 100
abbrev pub Spelled : ℕ → Type 0
Spelled n = ((n ≤ 9) × (decimal n ≡ (48 + n) ∷ [])) ⊎ ((10 ≤ n) × (decimal n ≡ (48 + n / 10) ∷ (48 + n % 10) ∷ []))

spelled : (n : ℕ) → n ≤ 99 → Spelled n
spelled n l = by_size (cases_lt n 10)
  where
    by_size : (n < 10) ⊎ (10 ≤ n) → Spelled n
    by_size (inl less) = inl (omega arith, decimal_digit n less)
    by_size (inr more) =
        inr (
          more,
          decimal_step n more (omega arith) ∙ ap (λ (l : List ℕ). l ++ ((48 + n % 10) ∷ []))
              (decimal_digit (n / 10) (omega arith)),
        )

-- octets that spell a number below 100
module _ (octets : List ℕ) (n : ℕ) (few : n ≤ 99) (is : octets ≡ decimal n) where
  pub one_digit : length octets < 2 → (n ≤ 9) × (get_or octets 0 0 ≡ 48 + n)
  one_digit l = by_digits (spelled n few)
    where
      by_digits : Spelled n → (n ≤ 9) × (get_or octets 0 0 ≡ 48 + n)
      by_digits (inl it) = (it.0, ap (λ (l : List ℕ). get_or l 0 0) (is ∙ it.1))
      by_digits (inr it) = absurd (omega (arith, l, ap length (is ∙ it.1)))

  pub two_digits : 2 ≤ length octets → (10 ≤ n) × (get_or octets 0 0 ≡ 48 + n / 10) × (get_or octets 1 0 ≡ 48 + n % 10)
  two_digits l = by_digits (spelled n few)
    where
      by_digits : Spelled n → (10 ≤ n) × (get_or octets 0 0 ≡ 48 + n / 10) × (get_or octets 1 0 ≡ 48 + n % 10)
      by_digits (inl it) = absurd (omega (arith, l, ap length (is ∙ it.1)))
      by_digits (inr it) = (it.0, ap (λ (l : List ℕ). get_or l 0 0) (is ∙ it.1), ap (λ (l : List ℕ). get_or l 1 0) (is ∙ it.1))

  pub one_or_two : (1 ≤ length octets) × (length octets ≤ 2)
  one_or_two = by_digits (spelled n few)
    where
      by_digits : Spelled n → (1 ≤ length octets) × (length octets ≤ 2)
      by_digits (inl it) = let one = ap length (is ∙ it.1) in (omega (arith, one), omega (arith, one))
      by_digits (inr it) = let both = ap length (is ∙ it.1) in (omega (arith, both), omega (arith, both))

-- and what they spell
pub is_one : (octets : List ℕ) (n : ℕ) → 1 ≤ length octets → length octets < 2 → get_or octets 0 0 ≡ 48 + n → n ≤ 9 → octets ≡ decimal n
is_one [] n some few is small = absurd (omega arith)
is_one (x ∷ []) n some few is small = ap (λ (x : ℕ). x ∷ []) is ∙ sym (decimal_digit n (omega arith))
is_one (x ∷ y ∷ octets) n some few is small = absurd (omega arith)

pub is_two : (octets : List ℕ) (tens ones : ℕ) → 2 ≤ length octets → length octets < 3
    → get_or octets 0 0 ≡ 48 + tens → 1 ≤ tens → tens ≤ 9 → get_or octets 1 0 ≡ 48 + ones → ones ≤ 9
    → octets ≡ decimal (tens * 10 + ones)
is_two [] tens ones some few first t t' second o = absurd (omega arith)
is_two (x ∷ []) tens ones some few first t t' second o = absurd (omega arith)
is_two (x ∷ y ∷ []) tens ones some few first t t' second o =
    ap (λ (x : ℕ). x ∷ y ∷ []) first ∙ ap (λ (y : ℕ). (48 + tens) ∷ y ∷ []) second ∙ sym (two tens ones t t' o)
is_two (x ∷ y ∷ z ∷ octets) tens ones some few first t t' second o = absurd (omega arith)

pub one_of : (octets : List ℕ) (digit : Option ℕ) → 1 ≤ length octets → length octets < 2
    → IfSome digit (λ n. (get_or octets 0 0 ≡ 48 + n) × (n ≤ 9)) → IfSome digit (λ n. (n ≤ 99) × (octets ≡ decimal n))
one_of octets None some few is = tt
one_of octets (Some n) some few is = (omega (arith, is.1), is_one octets n some few is.0 is.1)

-- a first digit that is no zero
pub some_tens : (x tens : ℕ) → (x ≡ 48 → ⊥) → x ≡ 48 + tens → 1 ≤ tens
some_tens x zero other is = absurd (other is)
some_tens x (suc tens) other is = omega arith

pub no_digit : (n : ℕ) → None ≡ Some n → ⊥
no_digit n e = absurd cc
