-- Readers of digits that have come to a place.
use Rattle.std.proofs.Common.{◌≡◌, ℕ, zero, suc, ◌+◌, ◌-◌, ◌*◌, ◌<◌, ◌≤◌, true, false, ◌&&◌, List, [], ◌∷◌, length, drop, get_or, Some, None, refl, inl, inr, arith, Fits, w16, w32}
use Rattle.std.specs.List.{list_all}
use Rattle.std.specs.Char.{is_ascii_digit, is_ascii_hexdigit, digit_value}
use Rattle.std.proofs.lemmas.Bool.{cases_Bool}
use Rattle.std.proofs.lemmas.Bool.Decides.{nat_tests}
use Rattle.std.proofs.lemmas.Option.{same_Some}
use Rattle.std.proofs.lemmas.List.{drop_more}
use Rattle.ip_text.specs.Numbers.{decimal_from, decimal, decimal_within}
use Rattle.ip_text.specs.Readers.{hexadecimal_digit}

pub decimal_grows : (number : ℕ) (digits : List ℕ) → number ≤ decimal_from number digits
decimal_grows number [] = omega arith
decimal_grows number (digit ∷ digits) = omega (arith, decimal_grows (10 * number + (digit - 48)) digits)

pub record DecimalSoFar (limit : ℕ) (text : List ℕ) (at number : ℕ) : Type 0 where
  pub low : number ≤ limit
  pub digits : list_all is_ascii_digit (drop at text) ≡ list_all is_ascii_digit text
  pub value : decimal_from number (drop at text) ≡ decimal text

module _ (limit : ℕ) (text : List ℕ) (at number : ℕ) (so_far : DecimalSoFar limit text at number) where
  module _ (within : at < length text) (digit : ℕ) (is : digit ≡ get_or text at 0) where
    here : drop at text ≡ digit ∷ drop (at + 1) text
    here = rw is (drop_more text at 0 within)

    pub large_decimal : is_ascii_digit digit ≡ true → limit < 10 * number + (digit - 48) → None ≡ decimal_within limit text
    large_decimal good large =
        let value : decimal_from (10 * number + (digit - 48)) (drop (at + 1) text) ≡ decimal text = rw here at so_far.value in
        grind (arith, nat_tests, value, decimal_grows (10 * number + (digit - 48)) (drop (at + 1) text))

  pub more_decimal : at < length text → is_ascii_digit (get_or text at 0) ≡ true → (digit : ℕ) → digit ≡ get_or text at 0 - 48
      → 10 * number + digit ≤ limit → DecimalSoFar limit text (at + 1) (10 * number + digit)
  more_decimal within good digit is small =
      let digits : (is_ascii_digit (get_or text at 0) && list_all is_ascii_digit (drop (at + 1) text)) ≡ list_all is_ascii_digit text =
      rw (drop_more text at 0 within) at so_far.digits in
      let value : decimal_from (10 * number + (get_or text at 0 - 48)) (drop (at + 1) text) ≡ decimal text =
      rw (drop_more text at 0 within) at so_far.value in
      record { low = small; digits = rw good at digits; value = rw (← is) at value }

-- at most so much after so many hexadecimal digits
abbrev pub below_digits : ℕ → ℕ → Type 0
below_digits at number = (at ≡ 0 → number < 1) × (at ≡ 1 → number < 16) × (at ≡ 2 → number < 256) × (at ≡ 3 → number < 4096)
    × (number < 65536)

-- one more digit
pub low_more : (at number digit : ℕ) → at < 4 → digit < 16 → below_digits at number → below_digits (at + 1) (16 * number + digit)
low_more zero number digit within small low = let k =
    low.0 refl in (λ no. omega arith, λ _. omega arith, λ no. omega arith, λ no. omega arith, omega arith)
low_more (suc zero) number digit within small low = let k =
    low.1 refl in (λ no. omega arith, λ no. omega arith, λ _. omega arith, λ no. omega arith, omega arith)
low_more (suc (suc zero)) number digit within small low = let k =
    low.2 refl in (λ no. omega arith, λ no. omega arith, λ no. omega arith, λ _. omega arith, omega arith)
low_more (suc (suc (suc zero))) number digit within small low = let k =
    low.3 refl in (λ no. omega arith, λ no. omega arith, λ no. omega arith, λ no. omega arith, omega arith)
low_more (suc (suc (suc (suc at)))) number digit within small low = absurd (omega arith)

pub record Digit (octet digit : ℕ) : Type 0 where
  pub good : is_ascii_hexdigit octet ≡ true
  pub value : digit_value octet ≡ digit
  pub low : digit < 16

pub digit_read : (octet digit : ℕ) → hexadecimal_digit octet ≡ Some digit → Digit octet digit
digit_read octet digit e =
    elim (cases_Bool (is_ascii_hexdigit octet)) [
      | inl good ↦ (
          let value : digit_value octet ≡ digit = same_Some (digit_value octet) digit (rw good at e) in
          let small : digit_value octet < 16 = grind (arith, nat_tests, good) in
          record { good = good; value = value; low = rw value at small })
      | inr bad ↦ (let no : None ≡ Some digit = rw bad at e in absurd cc)
    ]

pub times_fits : (number : ℕ) → number < 65536 → Fits w32 (16 * number)
times_fits number low = omega arith

pub number_fits : (number : ℕ) → number < 65536 → Fits w16 number
number_fits number low = omega arith

pub plus_fits : (octet number digit : ℕ) → number < 65536 → hexadecimal_digit octet ≡ Some digit → Fits w32 (16 * number + digit)
plus_fits octet number digit low e = let k : digit < 16 = (digit_read octet digit e).low in omega arith

pub no_digit_read : (octet : ℕ) → hexadecimal_digit octet ≡ None → is_ascii_hexdigit octet ≡ false
no_digit_read octet e =
    elim (cases_Bool (is_ascii_hexdigit octet)) [
      | inl good ↦ (let no : Some (digit_value octet) ≡ None = rw good at e in absurd cc)
      | inr bad ↦ bad
    ]
