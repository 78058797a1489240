-- The reader of a group in front that has come to a place.
use Rattle.std.proofs.Common.{◌≡◌, ℕ, ◌+◌, ◌*◌, ◌<◌, ◌≤◌, List, [], ◌∷◌, length, drop, get_or, Some, None, refl, sym, ap, ◌∙◌, arith}
use Rattle.std.specs.Char.{is_ascii_hexdigit, digit_value}
use Rattle.std.proofs.lemmas.Bool.Decides.{nat_tests}
use Rattle.ip_text.specs.Numbers.{hexadecimal_from, hexadecimal}
use Rattle.ip_text.specs.Parts.{row, behind_row}
use Rattle.ip_text.specs.Readers.{hexadecimal_digit, hexadecimal_group, group_in_front}
use Rattle.ip_text.proofs.Digits.{below_digits, low_more, digit_read, no_digit_read}
use Rattle.ip_text.proofs.Rows.{row_all, row_here, row_stops, row_at_end}

pub record GroupSoFar (text : List ℕ) (at number : ℕ) : Type 0 where
  pub low : below_digits at number
  pub short : at ≤ 4
  pub size : length (row is_ascii_hexdigit text) ≡ at + length (row is_ascii_hexdigit (drop at text))
  pub value : hexadecimal_from number (row is_ascii_hexdigit (drop at text)) ≡ hexadecimal (row is_ascii_hexdigit text)
  pub back : behind_row is_ascii_hexdigit (drop at text) ≡ behind_row is_ascii_hexdigit text

pub nothing_read : (text : List ℕ) → GroupSoFar text 0 0
nothing_read text = record {
  low = (λ _. omega arith, λ _. omega arith, λ _. omega arith, λ _. omega arith, omega arith);
  short = omega arith;
  size = omega arith;
  value = refl;
  back = refl;
}

module _ (text : List ℕ) (at number : ℕ) (so_far : GroupSoFar text at number) where
  -- all digits are read
  module _ (none : row is_ascii_hexdigit (drop at text) ≡ []) (back : behind_row is_ascii_hexdigit (drop at text) ≡ drop at text) where
    size_is : length (row is_ascii_hexdigit text) ≡ at
    size_is = omega (arith, so_far.size, ap length none)

    value_is : number ≡ hexadecimal (row is_ascii_hexdigit text)
    value_is = rw none at so_far.value

    back_is : behind_row is_ascii_hexdigit text ≡ drop at text
    back_is = sym so_far.back ∙ back

    no_digits : at ≡ 0 → None ≡ group_in_front text
    no_digits zero =
        let len : length (row is_ascii_hexdigit text) ≡ 0 = omega (arith, size_is, zero) in
        let k : hexadecimal_group (row is_ascii_hexdigit text) ≡ None = grind (arith, nat_tests, len) in
        rw k refl

    group_read : 0 < at → Some (number, drop at text) ≡ group_in_front text
    group_read some =
        let k : hexadecimal_group (row is_ascii_hexdigit text) ≡ Some number =
        grind (arith, nat_tests, row_all is_ascii_hexdigit text, size_is, value_is, so_far.short, some) in
        rw (k, back_is) refl

  module _ (within : at < length text) where
    module _ (none : None ≡ hexadecimal_digit (get_or text at 0)) where
      stops : (row is_ascii_hexdigit (drop at text) ≡ []) × (behind_row is_ascii_hexdigit (drop at text) ≡ drop at text)
      stops = row_stops is_ascii_hexdigit text at within (no_digit_read (get_or text at 0) (sym none))

      pub none_here : at ≡ 0 → None ≡ group_in_front text
      none_here zero = no_digits stops.0 stops.1 zero

      pub ends_here : 0 < at → Some (number, drop at text) ≡ group_in_front text
      ends_here some = group_read stops.0 stops.1 some

    module _ (digit : ℕ) (is : Some digit ≡ hexadecimal_digit (get_or text at 0)) where
      here : row is_ascii_hexdigit (drop at text) ≡ get_or text at 0 ∷ row is_ascii_hexdigit (drop (at + 1) text)
      here = (row_here is_ascii_hexdigit text at within (digit_read (get_or text at 0) digit (sym is)).good).0

      pub too_long : 3 < at → None ≡ group_in_front text
      too_long long =
          let len : 4 < length (row is_ascii_hexdigit text) = omega (arith, so_far.size, ap length here, long) in
          let k : hexadecimal_group (row is_ascii_hexdigit text) ≡ None = grind (arith, nat_tests, len) in
          rw k refl

      pub one_more : at ≤ 3 → GroupSoFar text (at + 1) (16 * number + digit)
      one_more short =
          let k = digit_read (get_or text at 0) digit (sym is) in
          let value : hexadecimal_from (16 * number + digit_value (get_or text at 0)) (row is_ascii_hexdigit (drop (at + 1) text))
          ≡ hexadecimal (row is_ascii_hexdigit text) = rw here at so_far.value in
          record {
            low = low_more at number digit (omega arith) k.low so_far.low;
            short = omega (arith, short);
            size = omega (arith, so_far.size, ap length here);
            value = rw k.value at value;
            back = sym (row_here is_ascii_hexdigit text at within k.good).1 ∙ so_far.back;
          }

  module _ (all : length text ≤ at) where
    ended : (row is_ascii_hexdigit (drop at text) ≡ []) × (behind_row is_ascii_hexdigit (drop at text) ≡ drop at text)
    ended = row_at_end is_ascii_hexdigit text at all

    pub none_at_end : at ≡ 0 → None ≡ group_in_front text
    none_at_end zero = no_digits ended.0 ended.1 zero

    pub ends_at_end : 0 < at → Some (number, drop at text) ≡ group_in_front text
    ends_at_end some = group_read ended.0 ended.1 some
