-- Classes of octets in a Via, and rows of them (RFC 3261 25.1).
use Rattle.std.specs.Prelude.{ℕ, ◌==◌, nat_le, Bool, not, ◌&&◌, ◌||◌, cond, List, [], ◌∷◌}
use Rattle.std.specs.Char.{is_ascii_alphanumeric}
use Rattle.sip_uri.specs.Classes.{is_among}

-- an octet is a space or a tab
abbrev pub is_blank : ℕ → Bool
is_blank octet = octet == 32 || octet == 9

-- an octet is a letter, a digit or one of -.!%*_+`'~
abbrev pub is_token_octet : ℕ → Bool
is_token_octet octet =
    is_ascii_alphanumeric octet
    || is_among (45 ∷ 46 ∷ 33 ∷ 37 ∷ 42 ∷ 95 ∷ 43 ∷ 96 ∷ 39 ∷ 126 ∷ []) octet

-- what does not end a host: no blank, no tab, no `:` and no `;`
abbrev pub is_in_host : ℕ → Bool
is_in_host octet = not (is_blank octet || octet == 58 || octet == 59)

-- what does not end a port: no blank, no tab and no `;`
abbrev pub is_in_port : ℕ → Bool
is_in_port octet = not (is_blank octet || octet == 59)

-- an octet from 33 to 126 other than `;`, `,` and `"`
abbrev pub is_value_octet : ℕ → Bool
is_value_octet octet =
    nat_le 33 octet && nat_le octet 126 && not (octet == 59 || octet == 44 || octet == 34)

-- the octets of a class in front, and what follows them
abbrev pub row : (ℕ → Bool) → List ℕ → List ℕ
row class [] = []
row class (x ∷ xs) = cond (class x) (x ∷ row class xs) []

abbrev pub behind_row : (ℕ → Bool) → List ℕ → List ℕ
behind_row class [] = []
behind_row class (x ∷ xs) = cond (class x) (behind_row class xs) (x ∷ xs)
