-- The text that is written for an address is a text of it.
use Rattle.std.proofs.Common.{◌≡◌, ℕ, zero, suc, ◌+◌, ◌*◌, ◌/◌, ◌%◌, ◌<◌, ◌≤◌, true, List, [], ◌∷◌, ◌++◌, length, nat_lt, refl, ap, inl, inr, arith}
use Rattle.std.specs.List.{AllByRecursion, list_all, join_with_byte}
use Rattle.std.specs.Char.{is_ascii_hexdigit, digit_value}
use Rattle.std.proofs.lemmas.Bool.{cases_Bool}
use Rattle.std.proofs.lemmas.Bool.Decides.{nat_tests}
use Rattle.std.proofs.lemmas.Str.{digit_value-digit_char}
use Rattle.ip_text.specs.declared.address.Address.{Address}
use Rattle.ip_text.specs.declared.address.Address.TheVariants.{V4, V6}
use Rattle.ip_text.specs.Addresses.{NumberText, V4Text, numbers, GroupText, AreGroups, whole, AddressText, AddressFits}
use Rattle.ip_text.specs.Numbers.{hexadecimal}
use Rattle.ip_text.specs.Shown.{decimal_text, hexadecimal_character, two_digits, hexadecimal_text, ipv4_text, groups_text, address_text}

-- ---- four numbers

decimal_written : (number : ℕ) → number < 256 → NumberText (decimal_text number) number
decimal_written number low =
    elim (cases_Bool (nat_lt number 10)) [
      | inl one ↦ (
          let small : number < 10 = grind (arith, nat_tests, one) in
          rw one (record {
            some = omega arith;
            short = omega arith;
            digits = grind (arith, nat_tests);
            is = omega arith;
            low = omega arith;
          }))
      | inr more ↦ elim (cases_Bool (nat_lt number 100)) [
        | inl two ↦ (
            let small : number < 100 = grind (arith, nat_tests, two) in
            rw (more, two) (record {
              some = omega arith;
              short = omega arith;
              digits = grind (arith, nat_tests);
              is = omega arith;
              low = omega arith;
            }))
        | inr three ↦ rw (more, three) (record {
          some = omega arith;
          short = omega arith;
          digits = grind (arith, nat_tests);
          is = omega arith;
          low = omega arith;
        })
      ]
    ]

four_written : (octets : List ℕ) → length octets ≡ 4 → AllByRecursion (λ octet. octet < 256) octets → V4Text (ipv4_text octets) octets
four_written (a ∷ b ∷ c ∷ d ∷ []) four low =
    numbers (decimal_text a) (decimal_text b) (decimal_text c) (decimal_text d) a b c d refl (decimal_written a low.0)
    (decimal_written b low.1.0) (decimal_written c low.1.1.0) (decimal_written d low.1.1.1.0) refl
four_written [] four low = absurd (omega arith)
four_written (a ∷ []) four low = absurd (omega arith)
four_written (a ∷ b ∷ []) four low = absurd (omega arith)
four_written (a ∷ b ∷ c ∷ []) four low = absurd (omega arith)
four_written (a ∷ b ∷ c ∷ d ∷ e ∷ more) four low = absurd (omega arith)

-- ---- eight groups

character_is : (number : ℕ) → (digit_value (hexadecimal_character number) ≡ number % 16)
    × (is_ascii_hexdigit (hexadecimal_character number) ≡ true)
character_is number =
    let low : number % 16 < 16 = omega arith in
    (digit_value-digit_char (number % 16) (omega arith), grind (arith, nat_tests))

-- one to four hexadecimal digits that spell a number
record Hexadecimal (text : List ℕ) (number : ℕ) : Type 0 where
  some : 0 < length text
  short : length text ≤ 4
  digits : list_all is_ascii_hexdigit text ≡ true
  is : hexadecimal text ≡ number

one_digit : (number : ℕ) → number < 16 → Hexadecimal (hexadecimal_character number ∷ []) number
one_digit number low =
    let a = character_is number in
    record { some = omega arith; short = omega arith; digits = rw a.1 refl; is = omega (arith, a.0) }

two_written : (number : ℕ) → number < 256 → Hexadecimal (two_digits number) number
two_written number low =
    let a = character_is (number / 16) in
    let b = character_is number in
    record { some = omega arith; short = omega arith; digits = rw (a.1, b.1) refl; is = omega (arith, a.0, b.0) }

three_written : (number : ℕ) → number < 4096 → Hexadecimal (hexadecimal_character (number / 256) ∷ two_digits number) number
three_written number low =
    let a = character_is (number / 256) in
    let b = character_is (number / 16) in
    let c = character_is number in
    record { some = omega arith; short = omega arith; digits = rw (a.1, b.1, c.1) refl; is = omega (arith, a.0, b.0, c.0) }

four_digits : (number : ℕ) → number < 65536 → Hexadecimal (two_digits (number / 256) ++ two_digits number) number
four_digits number low =
    let a = character_is (number / 256 / 16) in
    let b = character_is (number / 256) in
    let c = character_is (number / 16) in
    let d = character_is number in
    record { some = omega arith; short = omega arith; digits = rw (a.1, b.1, c.1, d.1) refl; is = omega (arith, a.0, b.0, c.0, d.0) }

hexadecimal_written : (number : ℕ) → number < 65536 → Hexadecimal (hexadecimal_text number) number
hexadecimal_written number low =
    elim (cases_Bool (nat_lt number 16)) [
      | inl one ↦ rw one (one_digit number (grind (arith, nat_tests, one)))
      | inr more ↦ elim (cases_Bool (nat_lt number 256)) [
        | inl two ↦ rw (more, two) (two_written number (grind (arith, nat_tests, two)))
        | inr many ↦ elim (cases_Bool (nat_lt number 4096)) [
          | inl three ↦ rw (more, many, three) (three_written number (grind (arith, nat_tests, three)))
          | inr four ↦ rw (more, many, four) (four_digits number low)
        ]
      ]
    ]

group_written : (high low : ℕ) → high < 256 → low < 256 → GroupText (hexadecimal_text (high * 256 + low)) (high ∷ low ∷ [])
group_written high low h l =
    let is = hexadecimal_written (high * 256 + low) (omega arith) in
    let one : high ≡ hexadecimal (hexadecimal_text (high * 256 + low)) / 256 = rw is.is (omega arith) in
    let two : low ≡ hexadecimal (hexadecimal_text (high * 256 + low)) % 256 = rw is.is (omega arith) in
    record { some = is.some; short = is.short; digits = is.digits; is = cc }

-- the texts of the groups of octets
texts_of : List ℕ → List (List ℕ)
texts_of [] = []
texts_of (high ∷ []) = []
texts_of (high ∷ low ∷ octets) = hexadecimal_text (high * 256 + low) ∷ texts_of octets

-- octets two by two, and at least two of them
data Pairs : List ℕ → Type 0 where
  one : (high low : ℕ) → high < 256 → low < 256 → Pairs (high ∷ low ∷ [])
  more : (high low : ℕ) (octets : List ℕ) → high < 256 → low < 256 → Pairs octets → Pairs (high ∷ low ∷ octets)

joined : (octets : List ℕ) → Pairs octets → groups_text octets ≡ join_with_byte 58 (texts_of octets)
unfolding texts_of
joined _ (one high low h l) = refl
joined _ (more high low _ h l (one high' low' h' l')) = refl
joined _ (more high low _ h l (more high' low' octets h' l' pairs)) =
    ap (λ (t : List ℕ). hexadecimal_text (high * 256 + low) ++ 58 ∷ t) (joined (high' ∷ low' ∷ octets) (more high' low' octets h' l' pairs))

are_groups : (octets : List ℕ) → Pairs octets → AreGroups true (texts_of octets) octets
unfolding texts_of
are_groups _ (one high low h l) = inl (group_written high low h l)
are_groups _ (more high low _ h l (one high' low' h' l')) =
    (high ∷ low ∷ [], high' ∷ low' ∷ [], group_written high low h l, inl (group_written high' low' h' l'), refl)
are_groups _ (more high low _ h l (more high' low' octets h' l' pairs)) = (
  high ∷ low ∷ [],
  high' ∷ low' ∷ octets,
  group_written high low h l,
  are_groups (high' ∷ low' ∷ octets) (more high' low' octets h' l' pairs),
  refl,
)

pairs_of : (octets : List ℕ) (half : ℕ) → length octets ≡ 2 * half + 2 → AllByRecursion (λ octet. octet < 256) octets → Pairs octets
pairs_of [] half even low = absurd (omega arith)
pairs_of (high ∷ []) half even low = absurd (omega arith)
pairs_of (high ∷ last ∷ []) half even low = one high last low.0 low.1.0
pairs_of (high ∷ last ∷ next ∷ octets) zero even low = absurd (omega arith)
pairs_of (high ∷ last ∷ next ∷ octets) (suc half) even low =
    more high last (next ∷ octets) low.0 low.1.0 (pairs_of (next ∷ octets) half (omega arith) low.1.1)

pub address_written : (address : Address) → AddressFits address → AddressText (address_text address) address
address_written (V4 octets) fits = four_written octets fits.0 fits.1
address_written (V6 octets) fits =
    let pairs = pairs_of octets 7 fits.0 fits.1 in
    whole (record { groups = texts_of octets; joined = joined octets pairs; are = are_groups octets pairs }) fits.0
