-- The text that is written for an address.
use Rattle.std.specs.Prelude.{ℕ, ◌+◌, ◌*◌, ◌/◌, ◌%◌, nat_lt, List, [], ◌∷◌, ◌++◌, map, if◌then◌else◌}
use Rattle.std.specs.List.{join_with_byte}
use Rattle.std.specs.Char.{digit_char}
use Rattle.ip_text.specs.declared.address.Address.{Address}
use Rattle.ip_text.specs.declared.address.Address.TheVariants.{V4, V6}

-- the text of a number of at most three decimal digits, without leading zeros
abbrev pub decimal_text : ℕ → List ℕ
decimal_text number =
    if nat_lt number 10 then (48 + number % 10) ∷ [] else
    (if nat_lt number 100 then (48 + number / 10 % 10) ∷ (48 + number % 10) ∷ []
    else (48 + number / 100) ∷ (48 + number / 10 % 10) ∷ (48 + number % 10) ∷ [])

-- the last hexadecimal digit of a number
abbrev pub hexadecimal_character : ℕ → ℕ
hexadecimal_character number = digit_char (number % 16)

-- an octet as two hexadecimal digits
abbrev pub two_digits : ℕ → List ℕ
two_digits number = hexadecimal_character (number / 0x10) ∷ hexadecimal_character number ∷ []

-- the text of a number of at most four hexadecimal digits, without leading zeros
abbrev pub hexadecimal_text : ℕ → List ℕ
hexadecimal_text number =
    if nat_lt number 0x10 then hexadecimal_character number ∷ [] else
    (if nat_lt number 0x100 then two_digits number else
    (if nat_lt number 0x1000 then hexadecimal_character (number / 0x100) ∷ two_digits number
    else two_digits (number / 0x100) ++ two_digits number))

-- the text of an IPv4 address: its octets as decimal numbers with dots between them
abbrev pub ipv4_text : List ℕ → List ℕ
ipv4_text octets = join_with_byte 46 (map decimal_text octets)

-- the text of an IPv6 address: a group for each two octets, with colons between them
abbrev pub groups_text : List ℕ → List ℕ
groups_text [] = []
groups_text (high ∷ []) = []
groups_text (high ∷ low ∷ []) = hexadecimal_text (high * 256 + low)
groups_text (high ∷ low ∷ next ∷ octets) =
    hexadecimal_text (high * 256 + low) ++ 58 ∷ groups_text (next ∷ octets)

-- the text that is written for an address; of IPv6 eight groups (RFC 4291 2.2)
abbrev pub address_text : Address → List ℕ
address_text (V4 octets) = ipv4_text octets
address_text (V6 octets) = groups_text octets
