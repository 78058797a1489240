-- Numbers that digits spell.
use Rattle.std.specs.Prelude.{ℕ, ◌+◌, ◌-◌, ◌*◌, ◌==◌, nat_lt, not, ◌||◌, List, [], ◌∷◌, length, Option, Some, None, if◌then◌else◌}
use Rattle.std.specs.List.{list_all}
use Rattle.std.specs.Char.{digit_value, is_ascii_digit}

-- a number after further decimal digits
abbrev pub decimal_from : ℕ → List ℕ → ℕ
decimal_from number [] = number
decimal_from number (digit ∷ digits) = decimal_from (10 * number + (digit - 48)) digits

-- the number that decimal digits spell
abbrev pub decimal : List ℕ → ℕ
decimal digits = decimal_from 0 digits

-- the number that one or more decimal digits spell, where it is at most this limit
abbrev pub decimal_within : ℕ → List ℕ → Option ℕ
decimal_within limit text =
    if length text == 0 || not (list_all is_ascii_digit text) || nat_lt limit (decimal text)
    then None else Some (decimal text)

-- a number after further hexadecimal digits, in letters of either case
abbrev pub hexadecimal_from : ℕ → List ℕ → ℕ
hexadecimal_from number [] = number
hexadecimal_from number (digit ∷ digits) = hexadecimal_from (16 * number + digit_value digit) digits

-- the number that hexadecimal digits spell
abbrev pub hexadecimal : List ℕ → ℕ
hexadecimal digits = hexadecimal_from 0 digits
