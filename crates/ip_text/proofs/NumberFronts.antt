-- The reader of a number in front that has come to a place.
use Rattle.std.proofs.Common.{◌≡◌, ℕ, ◌+◌, ◌-◌, ◌*◌, ◌<◌, ◌≤◌, true, false, List, [], ◌∷◌, length, drop, get_or, Some, None, refl, sym, ap, ◌∙◌, arith}
use Rattle.std.specs.Char.{is_ascii_digit}
use Rattle.std.proofs.lemmas.Bool.Decides.{nat_tests}
use Rattle.ip_text.specs.Numbers.{decimal_from, decimal}
use Rattle.ip_text.specs.Parts.{row, behind_row}
use Rattle.ip_text.specs.Readers.{ipv4_number, number_in_front}
use Rattle.ip_text.proofs.Digits.{decimal_grows}
use Rattle.ip_text.proofs.Rows.{row_all, row_here, row_stops, row_at_end}

pub record NumberSoFar (text : List ℕ) (at number : ℕ) : Type 0 where
  pub low : number ≤ 255
  pub short : at ≤ 3
  pub size : length (row is_ascii_digit text) ≡ at + length (row is_ascii_digit (drop at text))
  pub value : decimal_from number (row is_ascii_digit (drop at text)) ≡ decimal (row is_ascii_digit text)
  pub back : behind_row is_ascii_digit (drop at text) ≡ behind_row is_ascii_digit text

pub nothing_read : (text : List ℕ) → NumberSoFar text 0 0
nothing_read text = record { low = omega arith; short = omega arith; size = omega arith; value = refl; back = refl }

module _ (text : List ℕ) (at number : ℕ) (so_far : NumberSoFar text at number) where
  -- all digits are read
  module _ (none : row is_ascii_digit (drop at text) ≡ []) (back : behind_row is_ascii_digit (drop at text) ≡ drop at text) where
    size_is : length (row is_ascii_digit text) ≡ at
    size_is = omega (arith, so_far.size, ap length none)

    value_is : number ≡ decimal (row is_ascii_digit text)
    value_is = rw none at so_far.value

    back_is : behind_row is_ascii_digit text ≡ drop at text
    back_is = sym so_far.back ∙ back

    no_digits : at ≡ 0 → None ≡ number_in_front text
    no_digits zero =
        let len : length (row is_ascii_digit text) ≡ 0 = omega (arith, size_is, zero) in
        let k : ipv4_number (row is_ascii_digit text) ≡ None = grind (arith, nat_tests, len) in
        rw k refl

    number_read : 0 < at → Some (number, drop at text) ≡ number_in_front text
    number_read some =
        let k : ipv4_number (row is_ascii_digit text) ≡ Some number =
        grind (arith, nat_tests, row_all is_ascii_digit text, size_is, value_is, so_far.low, so_far.short, some) in
        rw (k, back_is) refl

  module _ (within : at < length text) (other : is_ascii_digit (get_or text at 0) ≡ false) where
    stops : (row is_ascii_digit (drop at text) ≡ []) × (behind_row is_ascii_digit (drop at text) ≡ drop at text)
    stops = row_stops is_ascii_digit text at within other

    pub none_here : at ≡ 0 → None ≡ number_in_front text
    none_here zero = no_digits stops.0 stops.1 zero

    pub ends_here : 0 < at → Some (number, drop at text) ≡ number_in_front text
    ends_here some = number_read stops.0 stops.1 some

  module _ (all : length text ≤ at) where
    ended : (row is_ascii_digit (drop at text) ≡ []) × (behind_row is_ascii_digit (drop at text) ≡ drop at text)
    ended = row_at_end is_ascii_digit text at all

    pub none_at_end : at ≡ 0 → None ≡ number_in_front text
    none_at_end zero = no_digits ended.0 ended.1 zero

    pub ends_at_end : 0 < at → Some (number, drop at text) ≡ number_in_front text
    ends_at_end some = number_read ended.0 ended.1 some

  module _ (within : at < length text) (is : is_ascii_digit (get_or text at 0) ≡ true) where
    here : row is_ascii_digit (drop at text) ≡ get_or text at 0 ∷ row is_ascii_digit (drop (at + 1) text)
    here = (row_here is_ascii_digit text at within is).0

    pub too_long : 2 < at → None ≡ number_in_front text
    too_long long =
        let len : 3 < length (row is_ascii_digit text) = omega (arith, so_far.size, ap length here, long) in
        let k : ipv4_number (row is_ascii_digit text) ≡ None = grind (arith, nat_tests, len) in
        rw k refl

    value_more : decimal_from (10 * number + (get_or text at 0 - 48)) (row is_ascii_digit (drop (at + 1) text))
        ≡ decimal (row is_ascii_digit text)
    value_more = rw here at so_far.value

    pub too_large : 255 < 10 * number + (get_or text at 0 - 48) → None ≡ number_in_front text
    too_large large =
        let k : ipv4_number (row is_ascii_digit text) ≡ None =
        grind (
          arith,
          nat_tests,
          large,
          value_more,
          decimal_grows (10 * number + (get_or text at 0 - 48)) (row is_ascii_digit (drop (at + 1) text)),
        ) in
        rw k refl

    pub one_more : (digit : ℕ) → digit ≡ get_or text at 0 - 48 → at ≤ 2 → 10 * number + digit ≤ 255
        → NumberSoFar text (at + 1) (10 * number + digit)
    one_more digit e short small = record {
      low = small;
      short = omega (arith, short);
      size = omega (arith, so_far.size, ap length here);
      value = rw (← e) at value_more;
      back = sym (row_here is_ascii_digit text at within is).1 ∙ so_far.back;
    }
