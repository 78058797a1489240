-- Classes of octets, and runs of them (RFC 3261 25.1).
use Rattle.std.specs.Prelude.{ℕ, ◌==◌, Bool, ◌||◌, IsTrue, List, [], ◌∷◌}
use Rattle.std.specs.List.{list_any}
use Rattle.std.specs.Char.{is_ascii_alphanumeric, is_ascii_hexdigit}

-- an octet is one of these
abbrev pub is_among : List ℕ → ℕ → Bool
is_among octets octet = list_any (λ (x : ℕ). x == octet) octets

-- an octet is a letter, a digit or one of `-_.!~*'()`
abbrev pub is_unreserved : ℕ → Bool
is_unreserved octet =
    is_ascii_alphanumeric octet || is_among (45 ∷ 95 ∷ 46 ∷ 33 ∷ 126 ∷ 42 ∷ 39 ∷ 40 ∷ 41 ∷ []) octet

-- an octet of a user: an unreserved one, or one of `&=+$,;?/`
abbrev pub is_user_octet : ℕ → Bool
is_user_octet octet =
    is_unreserved octet || is_among (38 ∷ 61 ∷ 43 ∷ 36 ∷ 44 ∷ 59 ∷ 63 ∷ 47 ∷ []) octet

-- an octet of a password: an unreserved one, or one of `&=+$,`
abbrev pub is_password_octet : ℕ → Bool
is_password_octet octet = is_unreserved octet || is_among (38 ∷ 61 ∷ 43 ∷ 36 ∷ 44 ∷ []) octet

-- an octet of a parameter: an unreserved one, or one of `[]/:&+$`
abbrev pub is_param_octet : ℕ → Bool
is_param_octet octet = is_unreserved octet || is_among (91 ∷ 93 ∷ 47 ∷ 58 ∷ 38 ∷ 43 ∷ 36 ∷ []) octet

-- an octet of a header: an unreserved one, or one of `[]/?:+$`
abbrev pub is_header_octet : ℕ → Bool
is_header_octet octet =
    is_unreserved octet || is_among (91 ∷ 93 ∷ 47 ∷ 63 ∷ 58 ∷ 43 ∷ 36 ∷ []) octet

-- a text is octets of a class, and escaped ones: `%` and two hexadecimal digits
pub data IsRun (class : ℕ → Bool) : List ℕ → Type 0 where
  none : IsRun class []
  plain : (octet : ℕ) (text : List ℕ) → IsTrue (class octet) → IsRun class text
      → IsRun class (octet ∷ text)
  escaped : (high low : ℕ) (text : List ℕ) → IsTrue (is_ascii_hexdigit high)
      → IsTrue (is_ascii_hexdigit low) → IsRun class text → IsRun class (37 ∷ high ∷ low ∷ text)
